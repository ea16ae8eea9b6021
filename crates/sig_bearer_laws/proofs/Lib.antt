pub mod Once
pub mod Transmitters
pub mod Receivers
