pub mod Answers
pub mod Complaints
pub mod KindName
pub mod Lines
pub mod Numbered
pub mod Reading
pub mod Shown
