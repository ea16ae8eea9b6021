-- How values, bytes and names stand in answers.
use Rattle.std.specs.Prelude.{ℕ, List, [], ◌∷◌, ◌++◌, Bool, true, false, codes, if◌then◌else◌}
use Rattle.serde_json.specs.Data.{Data, string}
use Rattle.serde_json.specs.Written.{compact_text, has_float}
use Rattle.sig_jws.specs.Compact.{base64url}

-- a word, a space and what it is about
abbrev pub said : List ℕ → List ℕ → List ℕ
said word rest = word ++ codes " " ++ rest

-- `yes` or `no`
abbrev pub yes_or_no : Bool → List ℕ
yes_or_no true = codes "yes"
yes_or_no false = codes "no"

-- a name as a JSON string
abbrev pub named : List ℕ → List ℕ → List ℕ
named word name = said word (compact_text (string name))

-- a value's canonical text; `fraction` where one stands in it
abbrev pub valued : List ℕ → Data → List ℕ
valued word d = if has_float d then codes "fraction" else said word (compact_text d)

-- the word that spells bytes
abbrev pub encoded : List ℕ → List ℕ
encoded [] = codes "-"
encoded (b ∷ bytes) = base64url (b ∷ bytes)
