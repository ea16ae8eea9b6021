pub mod Asks
pub mod Lines
pub mod Exchanges
pub mod Drives
pub mod Steps
pub mod Runs
