pub mod CanonicalRisc
pub mod ReadsRisc
pub mod WrittenRisc
pub mod ShallowRisc
