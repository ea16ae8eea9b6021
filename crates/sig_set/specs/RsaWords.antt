-- The words that an RSA public key is written as (RFC 7518, section 6.3.1).
use Rattle.std.specs.Prelude.{ℕ, ◌-◌, List, [], ◌∷◌, ◌++◌, Bool, false, length, nat_le, nat_lt, replicate, if◌then◌else◌, Option, Some, None, option_and_then}
use Rattle.std.specs.Int.{from_be_bytes, w32}
use Rattle.std.specs.Result.{result_ok}
use Rattle.base64.specs.Engines.{url_safe_no_pad}
use Rattle.base64.specs.GeneralPurpose.{decode_of}
use Rattle.sig_rs256.specs.Keys.{PublicKey, public_key_of}
use Rattle.sig_set.specs.declared.rsa_words.TheConstants.{EXPONENT_OCTETS}

-- there is a first octet, and it isn't 0
abbrev pub starts_full : List ℕ → Bool
starts_full [] = false
starts_full (octet ∷ octets) = nat_lt 0 octet

-- the octets of a number, where they are as few as they can be
abbrev pub fewest : List ℕ → Option (List ℕ)
fewest octets = if starts_full octets then Some octets else None

-- the octets of the number above 0 that a word spells (RFC 7518, section 2, of Base64urlUInt)
abbrev pub octets_of_word : List ℕ → Option (List ℕ)
octets_of_word word = option_and_then fewest (result_ok (decode_of url_safe_no_pad word))

-- the number of so few octets, the most significant first
abbrev pub big_endian : List ℕ → ℕ
big_endian octets = from_be_bytes w32 (replicate (EXPONENT_OCTETS - length octets) 0 ++ octets)

-- the exponent of these octets, where there are no more than it may have
abbrev pub exponent_of : List ℕ → Option ℕ
exponent_of octets = if nat_le (length octets) EXPONENT_OCTETS then Some (big_endian octets) else None

-- the exponent that a word spells
abbrev pub exponent_of_word : List ℕ → Option ℕ
exponent_of_word word = option_and_then exponent_of (octets_of_word word)

-- the key under this name whose modulus and exponent the words `n` and `e` spell
abbrev pub rsa_key_word : Option (List ℕ) → List ℕ → List ℕ → Option PublicKey
rsa_key_word kid n e = option_and_then (λ modulus. option_and_then (public_key_of kid modulus) (exponent_of_word e)) (octets_of_word n)
