pub mod FoundLemmas
pub mod StandingLemmas
pub mod SettingsLemmas
pub mod RefusingLemmas
