pub mod Families
pub mod Responses
pub mod Tallies
