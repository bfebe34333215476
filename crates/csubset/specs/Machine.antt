-- What the C does under the kernel: from words and operators up to the events of a list of moves.
pub mod Word
pub mod Operators
pub mod Expression
pub mod Memory
pub mod Application
pub mod Services
pub mod State
pub mod Statement
pub mod Step
pub mod Trace
