pub mod Lines
pub mod Strays
pub mod Table
