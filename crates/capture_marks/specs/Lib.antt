pub mod Marks
pub mod Exactly
pub mod Enough
pub mod Worked
