-- The definitions that contracts cite.
pub mod Placing
pub mod Steps
pub mod Typing
pub mod WellTyped
pub mod Laws
