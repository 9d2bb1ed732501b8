pub mod Wrote
pub mod Whole
