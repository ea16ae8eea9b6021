-- Signatures of RSASSA-PKCS1-v1_5 with SHA-256 (RFC 8017, section 8.2.2; `RS256` of RFC 7518, section 3.3).
use Rattle.std.specs.Prelude.{◌≡◌, ℕ, ◌<◌, ◌%◌, ◌^◌, ◌&&◌, Bool, List, length, nat_eq, nat_lt}
use Rattle.sig_number.specs.Modulus.{number}
use Rattle.sig_rs256.specs.Encoding.{encoded}
use Rattle.sig_rs256.specs.Keys.{PublicKey}

-- a signature of a message under a key, by the steps of RFC 8017, section 8.2.2
pub record IsSignature (key : PublicKey) (message signature : List ℕ) : Type 0 where
  -- step 1: it has as many bytes as the modulus
  pub long : length signature ≡ length key.modulus
  -- steps 2a and 2b: the number that it spells is below the modulus (section 5.2.2, step 1)
  pub below : number signature < number key.modulus
  -- steps 2b to 4: its power modulo the modulus is the number that the encoded message spells
  pub power : number signature ^ key.exponent % number key.modulus ≡ number (encoded (length key.modulus) message)

-- whether a signature is one of a message under a key
unfoldable pub is_signature : PublicKey → List ℕ → List ℕ → Bool
is_signature key message signature =
    nat_eq (length signature) (length key.modulus) && nat_lt (number signature) (number key.modulus)
    && nat_eq (number signature ^ key.exponent % number key.modulus) (number (encoded (length key.modulus) message))
