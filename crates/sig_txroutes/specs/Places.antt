-- The place from which the operator reads how streams stand, as a query says it (defined here).
use Rattle.std.specs.Prelude.{ℕ, List, ◌&&◌, Option, Some, None, Result, Ok, ok_or, bytes_eq, codes, if◌then◌else◌, nat_le, nat_lt, slice_index}
use Rattle.std.specs.Str.{all_ascii_digits}
use Rattle.std.specs.Str.Parse.{digits_value}
use Rattle.sig_json.specs.declared.limits.TheConstants.{LAST_NUMBER}
use Rattle.sig_http.specs.declared.fault.HttpRefusal.{HttpRefusal}
use Rattle.sig_http.specs.declared.fault.HttpRefusal.TheVariants as refusal

-- a number up to LAST_NUMBER
abbrev pub within : ℕ → Option ℕ
within n = if nat_le n LAST_NUMBER then Some n else None

-- one from 1 on, in decimal without leading zeros
abbrev pub counted : List ℕ → Option ℕ
counted text = if nat_lt 48 (slice_index text 0) && all_ascii_digits text then within (digits_value 10 text) else None

-- a number up to LAST_NUMBER, in decimal without leading zeros
abbrev pub number_in : List ℕ → Option ℕ
number_in text = if bytes_eq text (codes "0") then Some 0 else counted text

-- the place of the first stream, by what stands at `from`; the first of all where nothing does
abbrev pub place_of : Option (List ℕ) → Result ℕ HttpRefusal
place_of None = Ok 0
place_of (Some text) = ok_or (number_in text) (refusal.Bad (codes "from"))
