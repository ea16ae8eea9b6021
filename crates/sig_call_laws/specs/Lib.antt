pub mod Repeats
pub mod Authority
pub mod Audience
