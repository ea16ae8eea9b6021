pub mod Turns
pub mod Delivered
pub mod Rounds
pub mod Laws
pub mod Noted
