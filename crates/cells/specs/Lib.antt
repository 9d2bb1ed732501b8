pub mod Cells
pub mod Values
pub mod Inside
pub mod Answers
pub mod Code
