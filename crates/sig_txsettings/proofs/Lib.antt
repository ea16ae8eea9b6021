pub mod ProperSettings
pub mod RuleSteps
