-- What a script that is replayed puts on an output.
pub mod Seen
pub mod Text
pub mod Puts
pub mod After
pub mod Replays
pub mod Rest
