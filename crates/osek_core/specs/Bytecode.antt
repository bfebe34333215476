-- What the bytecode does: JVMS SE 8. From the data of classes up to the events of a list of moves.
pub mod World
pub mod Shown
pub mod Application
pub mod Value
pub mod State
pub mod Instruction
pub mod Step
pub mod Trace
