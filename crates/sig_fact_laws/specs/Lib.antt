pub mod Leaves
pub mod Due
pub mod Identifiers
