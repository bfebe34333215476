-- The definitions that contracts cite.
pub mod Application
pub mod State
pub mod Frames
pub mod Made
pub mod Step
pub mod Trace
pub mod First
pub mod Numbers
pub mod Held
pub mod Shown
pub mod Kept
pub mod Running
pub mod Tops
pub mod Callers
pub mod Finish
pub mod Serving
pub mod Moves
