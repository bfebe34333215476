-- The definitions that contracts cite.
pub mod Methods
pub mod Pairs
pub mod Typings
pub mod Calls
pub mod Starts
pub mod Faults
pub mod Reach
