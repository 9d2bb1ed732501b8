pub mod Emission
pub mod Refusal
pub mod Length
pub mod Walk
pub mod Runs
pub mod Inner
