mod Links
mod MoreSteps
mod OneStep
mod SettingsLemmas
