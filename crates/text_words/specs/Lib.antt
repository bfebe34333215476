pub mod Numbers
pub mod Said
pub mod TextLines
pub mod Words
