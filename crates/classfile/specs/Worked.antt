-- Worked examples, which the checker computes.
pub mod Files
pub mod ClassFiles
pub mod PoolEntries
pub mod Faults
pub mod Spellings
