pub mod Grown
pub mod OnePush
pub mod MorePushes
pub mod MoreRounds
pub mod GoingOn
pub mod HandedLemmas
