pub mod WantedLemmas
pub mod SafeLemmas
pub mod ReadLemmas
