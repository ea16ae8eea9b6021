pub mod Targets
pub mod Pushed
