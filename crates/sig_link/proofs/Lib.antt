pub mod AnswerLemmas
pub mod ChainLemmas
pub mod EndLemmas
pub mod PassLemmas
