pub mod Writes
pub mod Builds
pub mod InPackets
pub mod JustEnough
pub mod Fitted
