pub mod Keeping
pub mod Zipping
pub mod Adding
pub mod Climbing
pub mod ByClass
pub mod Gathering
