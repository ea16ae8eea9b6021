pub mod CountingLemmas
pub mod FollowLemmas
pub mod StoreLemmas
pub mod WatchLemmas
pub mod ClientLemmas
pub mod ErrandLemmas
