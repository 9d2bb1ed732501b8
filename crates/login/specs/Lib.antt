pub mod Body
pub mod Features
pub mod Rules
pub mod Login
pub mod Inner
