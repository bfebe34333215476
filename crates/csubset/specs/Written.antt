-- What holds of the C that is written: beside its form, its agreement with the tables and the map, the weights, and which
-- functions, calls and regions it has.
pub mod Agreement
pub mod SectionRule
pub mod Bound
pub mod Functions
pub mod Calls
pub mod Regions
pub mod Touched
pub mod Isolation
pub mod Promise
