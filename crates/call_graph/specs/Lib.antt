-- The definitions that contracts cite.
pub mod ReachedFrom
pub mod Ranks
pub mod Cycles
pub mod Worked
