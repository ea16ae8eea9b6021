mod NumberLemmas
mod TextLemmas
mod CutLemmas
mod Optional
mod StopLemmas
pub mod ProperLines
