pub mod Asks
pub mod Bodies
pub mod Entries
pub mod Laws
pub mod Named
pub mod Outcomes
pub mod Pushes
pub mod Sets
