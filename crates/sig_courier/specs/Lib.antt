pub mod Waits
pub mod Schedule
