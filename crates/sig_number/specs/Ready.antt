-- What a modulus holds beside its number, for Montgomery's multiplication.
use Rattle.std.specs.Prelude.{◌≡◌, ℕ, ◌+◌, ◌*◌, ◌^◌, ◌%◌, ◌≤◌, ◌<◌, List, length}
use Rattle.sig_number.specs.Value.{value, weight}
use Rattle.sig_number.specs.declared.montgomery.TheConstants.{MOST_LIMBS}

-- limbs with room for so many bytes, the square of the weight above them as a remainder, and what clears a limb
pub record IsReady (limbs radix : List ℕ) (inverse bytes : ℕ) : Type 0 where
  pub room : bytes ≤ 8 * length limbs
  pub most : length limbs ≤ MOST_LIMBS
  pub as_long : length radix ≡ length limbs
  pub below : value radix < value limbs
  pub square : value radix % value limbs ≡ (weight (length limbs) * weight (length limbs)) % value limbs
  pub clears : (value limbs * inverse + 1) % 2 ^ 64 ≡ 0
