pub mod Sizes
pub mod Wants
