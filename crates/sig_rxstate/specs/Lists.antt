-- Lists with a count of eight bytes, in which each item is none of those before it.
use Rattle.std.specs.Prelude.{ℕ, zero, suc, List, [], ◌∷◌, ◌++◌, length, flat_map, Bool, Option, Some, None, Result, if◌then◌else◌}
use Rattle.sig_fields.specs.Kinds as kinds
use Rattle.sig_fields.specs.Reading.{given, ruled, ◌>>=◌}

-- ---- how they are spelled

abbrev pub list_bytes : {T : Type 0} → (T → List ℕ) → List T → List ℕ
list_bytes spelled xs = kinds.number_bytes (length xs) ++ flat_map spelled xs

-- ---- how they are read

-- the item, where it is none of those before it
abbrev pub new_to : {T : Type 0} → (T → List T → Bool) → List T → T → Option T
new_to is_known before x = if is_known x before then None else Some x

-- items with one more; one that is there already breaks its rule, and so is where it begins
abbrev pub with_one : {T : Type 0} → (T → List T → Bool) → (List ℕ → Result (T × List ℕ) (List ℕ)) → List T → List ℕ → Result (List T × List ℕ) (List ℕ)
with_one is_known read before = do
  x ← ruled (new_to is_known before) read
  given (before ++ x ∷ [])

-- items with so many more
abbrev pub with_more : {T : Type 0} → (T → List T → Bool) → (List ℕ → Result (T × List ℕ) (List ℕ)) → ℕ → List T → List ℕ → Result (List T × List ℕ) (List ℕ)
with_more is_known read zero before = given before
with_more is_known read (suc n) before = do
  longer ← with_one is_known read before
  with_more is_known read n longer

abbrev pub list : {T : Type 0} → (T → List T → Bool) → (List ℕ → Result (T × List ℕ) (List ℕ)) → List ℕ → Result (List T × List ℕ) (List ℕ)
list is_known read = do
  n ← kinds.number
  with_more is_known read n []
