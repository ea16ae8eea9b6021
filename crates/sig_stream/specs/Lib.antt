pub mod Configurations
pub mod Endpoints
pub mod Publications
pub mod Steps
pub mod Wants
