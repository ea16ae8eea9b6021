pub mod PeerLemmas
pub mod Gateways
pub mod SettingSteps
