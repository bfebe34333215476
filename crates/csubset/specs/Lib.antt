-- The definitions that contracts cite: a program's text and form, what its run shows, and its image in the bytecode.
pub mod Text
pub mod Machine
pub mod Form
pub mod Image
pub mod Written
pub mod Worked
