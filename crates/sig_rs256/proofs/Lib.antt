pub mod KeyLemmas
pub mod SignatureLemmas
