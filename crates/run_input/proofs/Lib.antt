pub mod Inputs
pub mod Turning
