mod KeptLemmas
pub mod ToldLemmas
mod SendingLemmas
mod ReceivingLemmas
