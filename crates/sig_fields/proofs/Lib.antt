pub mod Agreeing
pub mod Exact
pub mod ItemLemmas
pub mod TextLemmas
