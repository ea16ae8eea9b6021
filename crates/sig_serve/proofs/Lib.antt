pub mod SettingsLemmas
pub mod RunLemmas
pub mod ServingLemmas
