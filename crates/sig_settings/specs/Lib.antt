pub mod Bearers
pub mod Keys
pub mod Lists
pub mod Members
pub mod Objects
pub mod Paths
pub mod Places
pub mod Texts
