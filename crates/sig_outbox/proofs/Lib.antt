pub mod ReadyLemmas
pub mod TotalLemmas
