-- When a program is in form: the rules that go beyond the shape of its lines. A fault has a kind, and is shown at a
-- function's statement.
pub mod Shape
pub mod Jump
pub mod Label
pub mod Word
pub mod Callee
pub mod Region
pub mod Section
pub mod Falls
pub mod Cycle
pub mod Fault
