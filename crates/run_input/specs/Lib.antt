-- An input as a run takes it.
pub mod Input
