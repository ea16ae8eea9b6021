pub mod TokenSizes
pub mod DataSizes
pub mod WantSizes
