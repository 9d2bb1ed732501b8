pub mod Places
pub mod Packets
pub mod Positions
pub mod Stopped
pub mod Frames
pub mod Answers
pub mod Join
