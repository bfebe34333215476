-- The definitions that contracts cite: the classes of a world, what stands above what, members and their resolution, and what a
-- world is refused for.
pub mod Classes
pub mod Upwards
pub mod Ways
pub mod Edges
pub mod Row
pub mod Above
pub mod Superinterfaces
pub mod Members
pub mod Fields
pub mod Methods
pub mod Subtype
pub mod Packages
pub mod Alone
pub mod Keyed
pub mod Found
pub mod Faults
pub mod Worked
pub mod Held
pub mod Passed
