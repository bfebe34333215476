-- Worked examples: what the definitions of a C run give of small programs. The functions of src/worked.rt promise them.
pub mod Application
pub mod Stored
pub mod Sections
pub mod Stuck
pub mod Samples
pub mod LongArithmetic
pub mod LongBits
pub mod IntOperators
pub mod Form
pub mod Calls
pub mod Advance
pub mod Jumps
