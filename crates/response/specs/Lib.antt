pub mod Answer
pub mod Login
pub mod Routing
pub mod Lists
pub mod Replies
pub mod Inner
pub mod Packets
