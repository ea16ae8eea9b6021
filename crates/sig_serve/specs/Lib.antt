pub mod Beginning
pub mod Ends
pub mod Opening
pub mod Watches
pub mod Closing
pub mod Door
pub mod Serving
