pub mod Types
pub mod Tokens
pub mod Values
pub mod Names
