-- Worked examples: what the definitions show of small applications. The functions of src/worked.rt promise them.
pub mod Application
pub mod Stored
pub mod Preemption
pub mod Resources
pub mod Waiting
pub mod Alarms
pub mod Arithmetic
pub mod Scheduling
pub mod Initialisers
