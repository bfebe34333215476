-- The rules of the instructions, by groups.
pub mod Transition
pub mod Locals
pub mod StackForms
pub mod Arrays
pub mod Members
pub mod Returns
