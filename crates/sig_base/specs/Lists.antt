-- Lists with a count of eight bytes.
use Rattle.std.specs.Prelude.{◌<◌, ◌^◌, ℕ, List, ◌++◌, length, flat_map, All, Result}
use Rattle.sig_fields.specs.Kinds as kinds
use Rattle.sig_fields.specs.Reading.{◌>>=◌}

abbrev pub list_bytes : {T : Type 0} → (T → List ℕ) → List T → List ℕ
list_bytes spelled xs = kinds.number_bytes (length xs) ++ flat_map spelled xs

abbrev pub list : {T : Type 0} → (List ℕ → Result (T × List ℕ) (List ℕ)) → List ℕ → Result (List T × List ℕ) (List ℕ)
list read = do
  n ← kinds.number
  kinds.items read n

-- fewer than 2^64 items
pub record IsProperLong {T : Type 0} (IsProper : T → Type 0) (xs : List T) : Type 0 where
  pub each : All IsProper xs
  pub short : length xs < 2 ^ 64
