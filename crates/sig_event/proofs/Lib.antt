pub mod CanonicalEvents
pub mod EventSteps
pub mod ReadsEvents
pub mod WrittenEvents
pub mod ProperEvents
pub mod SameNews
