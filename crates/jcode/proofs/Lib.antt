pub mod CodeLoop
pub mod Concatenated
pub mod Landing
pub mod Leaves
pub mod SwitchLoops
