pub mod Frames
pub mod Items
pub mod Places
pub mod Start
pub mod Worked
