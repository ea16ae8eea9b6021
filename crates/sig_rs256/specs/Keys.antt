-- Public keys (RFC 8017, section 3.1; RFC 7518, section 3.3).
use Rattle.std.specs.Prelude.{◌≡◌, ◌==◌, ℕ, ◌≤◌, ◌<◌, ◌%◌, ◌^◌, ◌&&◌, Bool, List, nat_le, nat_lt, if◌then◌else◌, Option, Some, None}
use Rattle.sig_number.specs.Modulus.{IsModulus, is_modulus}

-- a public key: its name, where it has one, the bytes of its modulus, the most significant first, and its exponent
pub record PublicKey : Type 0 where
  pub kid : Option (List ℕ)
  pub modulus : List ℕ
  pub exponent : ℕ

-- whether a number is an exponent: odd, 3 at least, and below 2^32
abbrev pub is_exponent : ℕ → Bool
is_exponent exponent = nat_le 3 exponent && nat_lt exponent (2 ^ 32) && (exponent % 2 == 1)

-- whether bytes of a modulus and an exponent are a key: a modulus of 2,048 to 4,096 bits (`sig_number`)
unfoldable pub is_key : List ℕ → ℕ → Bool
is_key modulus exponent = is_modulus modulus && is_exponent exponent

-- bytes of a modulus and an exponent that are a key
pub record IsKey (modulus : List ℕ) (exponent : ℕ) : Type 0 where
  pub spelled : IsModulus modulus
  pub least : 3 ≤ exponent
  pub most : exponent < 2 ^ 32
  pub odd : exponent % 2 ≡ 1

-- the key of a name, bytes of a modulus and an exponent, where these are one
unfoldable pub public_key_of : Option (List ℕ) → List ℕ → ℕ → Option PublicKey
public_key_of kid modulus exponent =
    if is_key modulus exponent then Some (record { kid = kid; modulus = modulus; exponent = exponent }) else None
