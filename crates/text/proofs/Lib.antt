pub mod Scan
pub mod Spans
pub mod Trims
pub mod Twos
