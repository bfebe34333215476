pub mod ArrayNames
pub mod Putting
pub mod Reversal
pub mod Reversed
