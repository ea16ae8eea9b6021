pub mod StopLemmas
pub mod TickLemmas
pub mod LineLemmas
pub mod EndLemmas
pub mod RunLemmas
