pub mod Types
pub mod Status
pub mod Header
pub mod Reply
pub mod Cut
pub mod Agreed
pub mod Shaped
pub mod Inner
