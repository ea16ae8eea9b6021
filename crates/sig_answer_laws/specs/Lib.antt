pub mod Tokens
pub mod Given
pub mod Refused
pub mod Laws
pub mod Exact
