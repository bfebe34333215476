-- The definitions that contracts cite.
pub mod TypeStates
pub mod Assignable
pub mod Slots
pub mod Uninit
pub mod Worked
