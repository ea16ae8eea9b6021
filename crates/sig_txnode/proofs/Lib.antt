pub mod TurnLemmas
pub mod AnswerLemmas
pub mod CarryLemmas
pub mod LoadLemmas
pub mod NodeLemmas
pub mod OpenLemmas
pub mod Crossing
