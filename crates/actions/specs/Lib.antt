-- The definitions that contracts cite.
pub mod Known
pub mod Elements
pub mod Calls
pub mod Action
