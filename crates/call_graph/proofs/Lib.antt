pub mod Meaning
pub mod Filtering
pub mod Searching
pub mod Falling
