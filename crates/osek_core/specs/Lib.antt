-- The definitions that contracts cite: the tables, the kernel, and what the bytecode does under it.
pub mod Tables
pub mod Kernel
pub mod Core
pub mod Event
pub mod Bytecode
pub mod Worked
