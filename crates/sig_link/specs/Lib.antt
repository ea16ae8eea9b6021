pub mod Answering
pub mod Course
pub mod Exchange
pub mod Meaning
pub mod Moment
pub mod Serving
pub mod Work
