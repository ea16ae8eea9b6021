pub mod Formats
pub mod Laws
pub mod Matching
pub mod Reading
pub mod Subjects
pub mod Written
