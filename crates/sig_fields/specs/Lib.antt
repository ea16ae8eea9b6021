pub mod Agreeing
pub mod Kinds
pub mod Reading
pub mod Whole
