pub mod Asking
pub mod LastLine
pub mod InitRuns
pub mod Outside
pub mod ServerRuns
pub mod FetchRuns
pub mod CourierRuns
pub mod ManageRuns
