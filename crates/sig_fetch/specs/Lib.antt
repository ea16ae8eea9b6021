pub mod Asks
pub mod Pages
pub mod Turns
pub mod Rounds
pub mod Fetching
