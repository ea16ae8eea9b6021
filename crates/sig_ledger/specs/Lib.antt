pub mod Books
pub mod Room
pub mod Steps
