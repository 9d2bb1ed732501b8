pub mod ReadTokens
pub mod Positions
pub mod Reader
pub mod Meaning
pub mod Code
pub mod Spots
