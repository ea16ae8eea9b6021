pub mod Still
pub mod Stores
