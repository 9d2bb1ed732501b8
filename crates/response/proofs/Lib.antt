pub mod Firsts
pub mod Ends
pub mod Lengths
pub mod Measuring
pub mod Writing
pub mod Putting
pub mod InPackets
