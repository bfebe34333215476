-- Worked examples, which the checker computes.
pub mod Tables
pub mod Forms
pub mod Types
pub mod Starts
pub mod Refused
