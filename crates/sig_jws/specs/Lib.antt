pub mod Compact
pub mod Hmac
pub mod Key
pub mod Laws
pub mod Prepared
pub use Rattle.sig_json.specs.Answers
