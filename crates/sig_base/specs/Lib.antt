pub mod Laws
pub mod Lists
pub mod Parts
pub mod Proper
pub mod Snapshot
pub mod Sums
