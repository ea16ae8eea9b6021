pub mod CauseLemmas
pub mod DiskCallLemmas
pub mod HeldLemmas
pub mod KeptDiskLemmas
pub mod LineLemmas
pub mod NextLemmas
pub mod ReachLemmas
