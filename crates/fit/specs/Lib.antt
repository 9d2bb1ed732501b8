pub mod Misfits
pub mod First
pub mod Worked
pub mod Records
pub mod Walks
