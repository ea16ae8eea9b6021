pub mod AskLemmas
pub mod NumberLemmas
pub mod ReplyLemmas
pub mod RouteLemmas
pub mod WholeRows
