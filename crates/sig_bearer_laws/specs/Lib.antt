pub mod Bearers
pub mod Receivers
pub mod Transmitters
