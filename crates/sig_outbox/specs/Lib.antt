pub mod Kinds
pub mod State
pub mod Totals
