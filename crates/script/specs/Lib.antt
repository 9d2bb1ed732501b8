pub mod Records
pub mod Order
pub mod Shape
pub mod Verdict
pub mod Runs
pub mod Sets
