pub mod Answers
pub mod Asked
pub mod Calls
pub mod Documents
pub mod Laws
pub mod Metrics
pub mod Routes
