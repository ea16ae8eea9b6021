pub mod AskLemmas
pub mod Joined
pub mod NumberLemmas
pub mod ProperLemmas
pub mod ReplyLemmas
pub mod RouteLemmas
pub mod WholeDocuments
