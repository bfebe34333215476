pub mod Bytes
pub mod Descriptors
pub mod Examples
pub mod Names
pub mod Spelled
pub mod SpellingLaw
pub mod Types
pub mod Width
