-- The definitions that contracts cite.
pub mod Places
pub mod Method
pub mod Worked
