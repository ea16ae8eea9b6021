pub mod Collecting
pub mod AskLemmas
pub mod BringLemmas
pub mod TryLemmas
pub mod TickLemmas
pub mod OverNodeLemmas
pub mod LateLemmas
