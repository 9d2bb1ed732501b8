pub mod Headers
pub mod Batch
pub mod Transaction
pub mod FedAuth
pub mod TooSmall
