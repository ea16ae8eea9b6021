pub mod Ends
pub mod Texts
pub mod Ticks
pub mod Lines
pub mod Sides
pub mod Runs
