pub mod Spelled
pub mod Status
