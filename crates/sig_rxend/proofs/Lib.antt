pub mod CountingLemmas
pub mod SideLemmas
pub mod StoreLemmas
pub mod WatchLemmas
