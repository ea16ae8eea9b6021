pub mod Interim
pub mod Exchanged
pub mod Asked
pub mod Reading
