pub mod Held
pub mod Counted
pub mod Holding
pub mod Steps
pub mod Schedules
pub mod Growth
