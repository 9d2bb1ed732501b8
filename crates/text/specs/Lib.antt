pub mod Units
pub mod Surrogates
pub mod Space
pub mod Trim
pub mod Arguments
