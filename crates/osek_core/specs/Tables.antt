-- The tables of an application.
pub mod Limits
pub mod WellConfigured
