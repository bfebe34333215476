pub mod Left
pub mod Gathering
pub mod Calling
pub mod Few
pub mod Ordering
pub mod Typing
