-- Worked examples, computed by the checker.
pub mod Setting
pub mod Wide
pub mod Uninitialised
