pub mod Replay
pub mod ReplayLaws
pub mod Schedules
