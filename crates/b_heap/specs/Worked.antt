-- Worked examples, computed by the checker.
pub mod Files
pub mod Costs
pub mod Fields
pub mod Objects
pub mod Kinds
