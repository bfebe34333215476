pub mod Rising
pub mod Stepped
pub mod Walked
pub mod Walking
pub mod WellTypedWalk
