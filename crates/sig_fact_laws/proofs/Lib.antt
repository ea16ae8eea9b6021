pub mod LeavesLemmas
pub mod MemberLemmas
pub mod TypeLemmas
pub mod DueLemmas
pub mod JtiLemmas
pub mod SpentLemmas
pub mod IdentifierLemmas
