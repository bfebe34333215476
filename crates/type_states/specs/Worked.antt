-- Worked examples, computed by the checker.
pub mod Frames
pub mod ArrayTypes
pub mod Stores
pub mod NewObjects
