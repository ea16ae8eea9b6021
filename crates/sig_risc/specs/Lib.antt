pub mod Events
pub mod Table
pub use Rattle.sig_json.specs.Answers
pub use Rattle.sig_json.specs.Checks
pub use Rattle.sig_json.specs.Members
pub use Rattle.sig_json.specs.Payloads
