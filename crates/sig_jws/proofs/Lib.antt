pub mod DigestLemmas
pub mod EncodingLemmas
pub mod SignedLemmas
pub mod SpellingLemmas
pub mod SplitLemmas
