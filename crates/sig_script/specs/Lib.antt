pub mod LineWords
pub mod Nodes
pub mod Cutting
pub mod Numbers
pub mod Stopping
pub mod Bodies
pub mod Script
pub mod Laws
