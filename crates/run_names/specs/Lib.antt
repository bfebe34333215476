-- The names of an application's objects and methods.
pub mod Objects
pub mod Methods
pub mod Worked
