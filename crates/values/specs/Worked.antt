pub mod Kept
pub mod Zero
