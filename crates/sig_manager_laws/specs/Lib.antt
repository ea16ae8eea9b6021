pub mod Configured
pub mod Written
pub mod Asked
pub mod Heard
