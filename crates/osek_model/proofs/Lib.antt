pub mod Steps
pub mod Ticks
pub mod Starts
pub mod News
pub mod Reached
