pub mod Told
pub mod Records
pub mod Bodies
pub mod Routes
