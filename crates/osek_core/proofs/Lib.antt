pub mod Queues
pub mod Running
pub mod Coherence
pub mod Holdings
pub mod Scheduling
