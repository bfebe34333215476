pub mod LostAlarms
pub mod WellMade
