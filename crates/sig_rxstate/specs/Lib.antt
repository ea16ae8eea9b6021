pub mod Laws
pub mod Lists
pub mod Parts
pub mod State
