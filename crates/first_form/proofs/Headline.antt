-- The headline for the first form.
pub mod Code
pub mod Words
pub mod Inversion
pub mod Arithmetic
pub mod Input
pub mod Relation
pub mod Steps
pub mod Ours
pub mod Form
pub mod Written
pub mod ConfigSays
pub mod Counted
pub mod Keeps
pub mod ClassSays
pub mod All
