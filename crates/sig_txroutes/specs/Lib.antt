pub mod Answers
pub mod Bodies
pub mod Calls
pub mod Documents
pub mod Metrics
pub mod Places
pub mod Laws
pub mod Routes
