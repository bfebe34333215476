-- The definitions that contracts cite.
pub mod Known
pub mod Floats
pub mod Objects
pub mod Fields
pub mod Methods
pub mod Linked
