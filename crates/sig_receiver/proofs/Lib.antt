pub mod JournalLemmas
pub mod KeptLemmas
