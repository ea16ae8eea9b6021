pub mod Clients
pub mod Settings
pub mod Values
