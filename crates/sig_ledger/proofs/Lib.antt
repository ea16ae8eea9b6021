pub mod OnceLemmas
pub mod FoundLemmas
pub mod RoomLemmas
pub mod TakenBooks
pub mod ChangedBooks
pub mod SameBooks
pub mod ReportedBooks
