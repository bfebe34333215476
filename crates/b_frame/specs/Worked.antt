-- Worked examples, computed by the checker.
pub mod Setting
pub mod Sums
pub mod Quotients
pub mod Bits
pub mod Forms
pub mod Branches
pub mod Slots
