pub mod JoinLemmas
pub mod StreamLemmas
pub mod SizeLemmas
pub mod StepLemmas
pub mod WholeLemmas
pub mod ChangeLemmas
pub mod SpentLemmas
pub mod RefusedLemmas
