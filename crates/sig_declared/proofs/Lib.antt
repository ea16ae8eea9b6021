pub mod ReadSettings
pub mod SettingSteps
