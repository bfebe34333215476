-- The definitions that contracts cite: what the words of a configuration name in a world, the rule of each form of line, and what
-- a whole configuration is bound to.
pub mod Places
pub mod Pairs
pub mod Named
pub mod Shown
pub mod Methods
pub mod Entries
pub mod Natives
pub mod Cells
pub mod CellsKept
pub mod Kept
pub mod Objects
pub mod Rooms
pub mod Bases
pub mod Portals
pub mod Bound
pub mod Worked
