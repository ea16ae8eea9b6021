-- The numbers of lines.
use Rattle.std.specs.Prelude.{ℕ, List, [], ◌∷◌, ◌==◌, Bool, false, not, ◌&&◌, Option, Some, None, nat_le, if◌then◌else◌}
use Rattle.std.specs.List.{list_all}
use Rattle.std.specs.Str.Parse.{digits_value}
use Rattle.sig_json.specs.declared.limits.TheConstants.{LAST_NUMBER}

abbrev pub is_digit : ℕ → Bool
is_digit b = nat_le 48 b && nat_le b 57

-- a decimal number without leading zeros
abbrev pub is_decimal : List ℕ → Bool
is_decimal [] = false
is_decimal (b ∷ []) = is_digit b
is_decimal (b ∷ c ∷ bs) = not (b == 48) && list_all is_digit (b ∷ c ∷ bs)

-- a number up to LAST_NUMBER
abbrev pub within : ℕ → Option ℕ
within n = if nat_le n LAST_NUMBER then Some n else None

-- the number that a word is
abbrev pub number_of : List ℕ → Option ℕ
number_of word = if is_decimal word then within (digits_value 10 word) else None
