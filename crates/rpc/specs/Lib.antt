pub mod Rpc
pub mod Answers
pub mod Alone
pub mod Inside
pub mod Refusals
pub mod Worked
