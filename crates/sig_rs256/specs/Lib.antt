pub mod Encoding
pub mod Keys
pub mod Laws
pub mod Signatures
pub use Rattle.sig_json.specs.Answers
