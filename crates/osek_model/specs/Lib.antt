-- What `Kernel` stands for: what it keeps of the tables, and the kernel's state under them.
pub mod Plan
pub mod Call
pub mod Acting
pub mod Value
pub mod Reached
