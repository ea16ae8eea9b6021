pub mod Events
pub mod Rows
pub mod Updates
pub mod EqualRows
pub mod SharedKeys
pub mod FoundRows
pub mod Tallies
pub mod FoundUpdates
