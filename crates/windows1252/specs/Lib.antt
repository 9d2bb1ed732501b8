pub mod Table
pub mod Labels
pub mod Answers
pub mod Code
pub mod Kept
pub mod Worked
