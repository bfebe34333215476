-- The definitions that contracts cite.
pub mod Domain
pub mod Executed
pub mod Known
pub mod Ends
pub mod Receivers
pub mod Fields
pub mod Arrays
pub mod Objects
pub mod Services
pub mod Calls
pub mod Execute
pub mod Worked
