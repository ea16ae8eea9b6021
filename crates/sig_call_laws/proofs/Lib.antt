pub mod RepeatLemmas
pub mod ChangeLemmas
pub mod AuthorityLemmas
pub mod AudienceLemmas
