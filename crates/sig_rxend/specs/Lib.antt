pub mod Counting
pub mod Grown
pub mod Laws
pub mod Receiver
pub mod Turning
pub mod Ends
pub mod Serving
pub mod Stores
