pub mod Members
pub mod Listing
pub mod Planning
pub mod Asking
pub mod Hearing
pub mod Exchange
pub mod Measure
pub mod Laws
