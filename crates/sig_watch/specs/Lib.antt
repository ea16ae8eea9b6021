pub mod Accepting
pub mod Attending
pub mod Ends
pub mod Happening
pub mod Passing
pub mod Receipts
pub mod Returning
pub mod Sights
