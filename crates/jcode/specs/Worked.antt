-- Worked examples: what small codes decode to.
pub mod Pool
pub mod Spellings
pub mod Switches
pub mod Faults
