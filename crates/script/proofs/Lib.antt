pub mod Walk
pub mod Verdicts
pub mod Runs
pub mod Ordered
pub mod Stops
