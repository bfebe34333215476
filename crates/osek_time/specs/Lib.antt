-- What `Time` stands for: the rules of the counters and alarms, and the clock under them.
pub mod Value
pub mod Kept
