pub mod Line
pub mod Prologue
pub mod Names
pub mod Expressions
pub mod Services
pub mod Statements
pub mod Program
pub mod Examples
