-- How often each label came, and how metrics tell it, in Prometheus' text format 0.0.4.
use Rattle.std.specs.Prelude.{◌≡◌, ◌⊎◌, ℕ, ◌+◌, ◌-◌, ◌^◌, List, ◌++◌, bytes_eq, codes, decimal, min, unwrap_or}
use Rattle.std.specs.Map.{lookup}
use Rattle.indexmap.specs.IndexMap.{insert_entry}

-- labels with their counts
abbrev pub Counted : Type 0
Counted = List (List ℕ × ℕ)

-- how often a label came
abbrev pub count_of : Counted → List ℕ → ℕ
count_of counts label = unwrap_or (lookup (bytes_eq label) counts) 0

-- a count after one more, where that is a number of 64 bits
abbrev pub one_more : ℕ → ℕ
one_more n = min (n + 1) (2 ^ 64 - 1)

-- the counts after a label came once more
abbrev pub counted : Counted → List ℕ → Counted
counted counts label = insert_entry bytes_eq counts label (one_more (count_of counts label))

-- a label came once more, unless there was no memory for it
abbrev pub IsCounted : List ℕ → Counted → Counted → Type 0
IsCounted label old new = (new ≡ old) ⊎ (new ≡ counted old label)

-- the line of a label: what opens its text, that text, which needs no escape, and its number
unfoldable pub line : List ℕ → List ℕ → ℕ → List ℕ
line front label n = front ++ label ++ codes "\"} " ++ decimal n ++ codes "\n"

abbrev pub line_of : List ℕ → List ℕ × ℕ → List ℕ
line_of front counted = line front counted.0 counted.1

-- the line of a metric without labels
unfoldable pub value : List ℕ → ℕ → List ℕ
value front n = front ++ decimal n ++ codes "\n"
