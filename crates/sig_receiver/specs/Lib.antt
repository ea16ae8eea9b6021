pub mod Journal
pub mod Rows
pub mod Receiver
pub mod Printed
pub mod Taking
pub mod Laws
