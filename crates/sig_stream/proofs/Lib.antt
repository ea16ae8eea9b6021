pub mod Collected
pub mod Cuts
pub mod EndpointReading
pub mod EventTypes
pub mod Ports
pub mod ProperPublications
pub mod PublishIds
