pub mod RoundTrip
pub mod Shaped
pub mod AnySize
pub mod Joined
pub mod Reading
pub mod Data
pub mod Running
