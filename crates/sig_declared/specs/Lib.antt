pub mod Declarations
pub mod Providers
pub mod Settings
pub mod Streams
