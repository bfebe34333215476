-- The definitions that contracts cite.
pub mod Shapes
pub mod Objects
pub mod Places
pub mod Statics
pub mod Rows
pub mod Held
pub mod Heap
pub mod Types
pub mod Worked
