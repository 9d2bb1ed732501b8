pub mod BySets
pub mod Sizes
pub mod Aheads
pub mod Turns
pub mod Values
pub mod Walks
pub mod Replies
pub mod Numbers
