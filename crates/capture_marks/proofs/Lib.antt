pub mod Turns
pub mod Counting
pub mod Marking
pub mod Answers
pub mod Exactly
pub mod Enough
pub mod Worked
