pub mod Debts
pub mod Listening
pub mod Listing
pub mod Owings
pub mod Places
pub mod PublishIds
pub mod Telling
pub mod Reported
