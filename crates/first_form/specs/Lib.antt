-- What an input of the first form says, and what is made of it.
pub mod Application
pub mod Class
pub mod Code
pub mod Config
pub mod Configuration
pub mod Counts
pub mod Fits
pub mod Headline
pub mod Methods
pub mod Operands
pub mod Program
pub mod Reach
pub mod Said
