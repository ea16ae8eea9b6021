pub mod Deliveries
pub mod Fitting
pub mod Reply
