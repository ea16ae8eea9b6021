pub mod NamedLemmas
pub mod SideLemmas
pub mod StoreLemmas
