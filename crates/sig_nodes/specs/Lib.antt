pub mod Records
pub mod Sending
pub mod Receiving
