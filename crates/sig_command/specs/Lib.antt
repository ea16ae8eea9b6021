pub mod Moment
pub mod WholeLines
pub mod Telling
pub mod Progress
