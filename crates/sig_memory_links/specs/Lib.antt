pub mod Doors
pub mod Lent
pub mod Memory
pub mod Named
pub mod Outside
