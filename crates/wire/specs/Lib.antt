pub mod Le
pub mod Be
pub mod Over
pub mod Fields
pub mod Part
pub mod Even
pub mod Octets
pub mod Puts
