-- The definitions that contracts cite.
pub mod Bindings
pub mod Initialisers
pub mod Targets
pub mod Mapped
pub mod Setting
pub mod Calls
pub mod Mentioned
