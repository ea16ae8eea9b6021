pub mod OrderLemmas
pub mod OthersLemmas
pub mod HistoryLemmas
pub mod PartLemmas
pub mod AnswerLemmas
