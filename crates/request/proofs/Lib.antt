pub mod Blocks
pub mod Sql
pub mod TooSmall
