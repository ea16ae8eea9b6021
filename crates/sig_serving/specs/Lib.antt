pub mod Line
pub mod Texts
pub mod Sending
pub mod Stops
