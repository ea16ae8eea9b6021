pub mod Issuers
pub mod Keys
pub mod Peers
pub mod Principals
pub mod Settings
