pub mod SettingsLemmas
pub mod RunLemmas
pub mod ServingLemmas
pub mod RoundLemmas
pub mod FetchEndLemmas
pub mod FetchLemmas
