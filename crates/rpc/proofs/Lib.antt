pub mod Told
pub mod Inside
pub mod Refusals
pub mod Walk
pub mod Alone
pub mod Calls
pub mod Worked
