pub mod Laws
pub mod Modulus
pub mod Ready
pub mod Value
