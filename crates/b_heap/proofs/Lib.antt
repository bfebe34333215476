pub mod Adding
pub mod Climbing
pub mod Descriptors
pub mod Placed
pub mod Told
