pub mod Mapped
pub mod Positions
