pub mod Adding
pub mod Exploring
pub mod Inserting
pub mod Putting
pub mod Closing
