-- What `System` stands for: what it keeps of the tables, and the system's state.
pub mod Value
pub mod Kept
pub mod Lost
pub mod Worked
