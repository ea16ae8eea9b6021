pub mod DoorLemmas
pub mod EndLemmas
pub mod FilesLemmas
pub mod ReadingLemmas
pub mod ServingLemmas
pub mod SettingsLemmas
pub mod TurnLemmas
pub mod WatchLemmas
