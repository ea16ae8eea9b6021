pub mod Wants
pub mod Lists
pub mod Standings
