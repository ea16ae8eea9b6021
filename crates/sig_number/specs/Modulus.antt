-- Odd numbers of 2,048 to 4,096 bits, as bytes spell them.
use Rattle.std.specs.Prelude.{◌≡◌, ◌==◌, ℕ, ◌≤◌, ◌<◌, ◌%◌, ◌^◌, ◌&&◌, Bool, List, length, nat_le, nat_lt, slice_index}
use Rattle.std.specs.Int.Digits.{number_from_digits}
use Rattle.sig_number.specs.declared.modulus.TheConstants.{MODULUS_BYTES_LEAST, MODULUS_BYTES_MOST}

-- the number that bytes spell, the most significant first (RFC 8017, section 4.2)
abbrev pub number : List ℕ → ℕ
number bytes = number_from_digits 256 bytes

-- the least number of 2,048 bits
abbrev pub least_modulus : ℕ
least_modulus = 2 ^ 2047

-- bytes that spell a modulus: an odd number of 2,048 to 4,096 bits, with no zero byte before it
pub record IsModulus (bytes : List ℕ) : Type 0 where
  pub least_bytes : MODULUS_BYTES_LEAST ≤ length bytes
  pub most_bytes : length bytes ≤ MODULUS_BYTES_MOST
  pub no_zero_before : 0 < slice_index bytes 0
  pub least : least_modulus ≤ number bytes
  pub odd : number bytes % 2 ≡ 1

-- whether bytes spell a number of 2,048 to 4,096 bits, with no zero byte before it
unfoldable pub is_sized : List ℕ → Bool
is_sized bytes =
    nat_le MODULUS_BYTES_LEAST (length bytes) && nat_le (length bytes) MODULUS_BYTES_MOST
    && nat_lt 0 (slice_index bytes 0) && nat_le least_modulus (number bytes)

-- whether bytes spell a modulus
unfoldable pub is_modulus : List ℕ → Bool
is_modulus bytes = is_sized bytes && (number bytes % 2 == 1)

-- a modulus as its callers see it: its number, and how many bytes spell it
pub record Spelled : Type 0 where
  pub number : ℕ
  pub bytes : ℕ

-- the modulus that bytes spell
abbrev pub spelled : List ℕ → Spelled
spelled bytes = record { number = number bytes; bytes = length bytes }

-- a base of as many bytes as the modulus has, below it, whose power modulo it is the number that these bytes spell
pub record IsPower (modulus : Spelled) (base : List ℕ) (exponent : ℕ) (expected : List ℕ) : Type 0 where
  pub long : length base ≡ modulus.bytes
  pub below : number base < modulus.number
  pub power : number base ^ exponent % modulus.number ≡ number expected
