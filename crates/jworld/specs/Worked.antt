-- Worked examples, computed by the checker.
pub mod Files
pub mod Above
pub mod Resolved
pub mod Subtypes
pub mod Splits
pub mod Numbered
pub mod FieldsFound
pub mod Refused
