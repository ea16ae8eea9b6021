pub mod Keeping
pub mod Settling
pub mod Views
