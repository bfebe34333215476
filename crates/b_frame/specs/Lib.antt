-- The definitions that contracts cite.
pub mod Frames
pub mod Stepped
pub mod Values
pub mod Numbers
pub mod LoadsAndStores
pub mod StackForms
pub mod Divisions
pub mod Jumps
pub mod LocalStep
pub mod Worked
