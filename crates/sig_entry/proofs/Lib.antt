pub mod ConfLemmas
pub mod FactLemmas
pub mod NewsLemmas
pub mod StreamLemmas
pub mod TokenLemmas
pub mod Steps
