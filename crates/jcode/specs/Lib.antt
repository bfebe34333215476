-- The definitions that contracts cite: how a method's code spells its instructions, and its first fault.
pub mod Form
pub mod Opcodes
pub mod Rows
pub mod Reading
pub mod Pool
pub mod PoolOf
pub mod Targets
pub mod Operands
pub mod Switches
pub mod Instructions
pub mod Code
pub mod Decoded
pub mod Spelling
pub mod Worked
