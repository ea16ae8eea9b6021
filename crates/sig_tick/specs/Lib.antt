pub mod Listing
pub mod Bringing
pub mod Trying
pub mod Ticking
pub mod OverNode
pub mod Laws
pub mod Owing
