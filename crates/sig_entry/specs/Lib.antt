pub mod Facts
pub mod Laws
pub mod Parts
pub mod Proper
pub mod Tokens
