pub mod CanonicalCaep
pub mod ReadsCaep
pub mod WrittenCaep
pub mod ShallowCaep
