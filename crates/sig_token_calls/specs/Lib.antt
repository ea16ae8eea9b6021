pub mod Handing
pub mod Offering
pub mod Replies
pub mod Sizes
pub mod Tokens
pub mod Verdicts
