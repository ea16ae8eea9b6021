pub mod Calendar
pub mod Deadlines
pub mod Notes
pub mod Adapters
