pub mod Answers
pub mod Canon
pub mod Checks
pub mod Json
pub mod Listed
pub mod Members
pub mod Order
pub mod Payloads
