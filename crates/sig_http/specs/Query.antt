-- The query of a target, read as a form (URL Standard, section 5.1).
use Rattle.std.specs.Prelude.{ℕ, Bool, List, [], ◌∷◌, if◌then◌else◌, Option, Some, None}
use Rattle.std.specs.Str.{bytes_eq}
use Rattle.std.specs.Str.Lossy.{utf8_lossy}
use Rattle.form_urlencoded.specs.Form.{decode, raw_pairs}

-- the text that an encoded name or value stands for, with U+FFFD for what is no UTF-8
abbrev pub text_of : List ℕ → List ℕ
text_of bytes = utf8_lossy (decode bytes)

abbrev pub is_name : List ℕ → List ℕ → Bool
is_name key name = bytes_eq (text_of key) name

-- the value of the first pair of this name
abbrev pub first_named : List ℕ → List (List ℕ × List ℕ) → Option (List ℕ)
first_named name [] = None
first_named name (pair ∷ pairs) = if is_name pair.0 name then Some (text_of pair.1) else first_named name pairs

-- the value of a name in a query
abbrev pub value_in : List ℕ → List ℕ → Option (List ℕ)
value_in query name = first_named name (raw_pairs query)
