-- What a run shows.
pub mod Text
