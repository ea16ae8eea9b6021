-- What holds of every key and of every signature.
use Rattle.std.specs.Prelude.{◌↔◌, ℕ, IsTrue, List}
use Rattle.sig_rs256.specs.Keys.{IsKey, PublicKey, is_key}
use Rattle.sig_rs256.specs.Signatures.{IsSignature, is_signature}

-- the test tells the keys
abbrev pub DecidesKeys : Type 0
DecidesKeys = (modulus : List ℕ) (exponent : ℕ) → IsTrue (is_key modulus exponent) ↔ IsKey modulus exponent

-- the test tells the signatures
abbrev pub DecidesSignatures : Type 0
DecidesSignatures =
    (key : PublicKey) (message signature : List ℕ) → IsTrue (is_signature key message signature) ↔ IsSignature key message signature
