-- The definitions that contracts cite.
pub mod Order
pub mod Reached
pub mod Closed
