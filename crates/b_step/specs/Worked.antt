-- Worked examples, computed by the checker.
pub mod Setting
pub mod Failures
pub mod Services
