pub mod PutLemmas
pub mod ListLemmas
pub mod FieldLemmas
pub mod StreamLemmas
pub mod BaseLemmas
pub mod SumLemmas
pub mod MadeLemmas
