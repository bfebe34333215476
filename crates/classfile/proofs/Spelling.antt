-- What is accepted is spelled so, and what is spelled so is accepted.
pub mod Calculus
pub mod Items
pub mod Repeating
pub mod Entries
pub mod Pools
pub mod Attributes
pub mod Codes
pub mod Members
pub mod Methods
pub mod Faults
pub mod Bodies
pub mod ClassFiles
