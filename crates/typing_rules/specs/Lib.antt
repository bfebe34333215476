-- The definitions that contracts cite.
pub mod Environment
pub mod Rules
pub mod Groups
pub mod Outcome
pub mod Worked
