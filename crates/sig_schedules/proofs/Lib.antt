pub mod ReplayRules
pub mod ReplayLemmas
mod ScriptEvents
mod ProperLines
