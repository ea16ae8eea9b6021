pub mod Collected
pub mod PlaceReading
pub mod Reading
pub mod Steps
