-- What `Core` stands for: the rules of an application, and the scheduler under them.
pub mod Value
pub mod Queue
pub mod Held
pub mod Waits
pub mod Kept
