mod Whole
mod Behind
mod Planned
pub mod Falling
mod Inverted
mod Written
