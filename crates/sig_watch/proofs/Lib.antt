pub mod AcceptLemmas
pub mod Crossing
pub mod DoorLemmas
pub mod EndLemmas
pub mod PassLemmas
pub mod ReceiptLemmas
pub mod SharedLemmas
pub mod WatchLemmas
