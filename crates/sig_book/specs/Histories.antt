-- One history: what its steps tell, and what begins it.
use Rattle.std.specs.Prelude.{ℕ, ◌≡◌, ◌==◌, ◌<◌, true, List, [], ◌∷◌, ◌++◌, length, MatchBool}
use Rattle.logbook.specs.Pages.{Cell, Step, View, Book, Named}
use mathlib.Core.List.{IsPrefix}

-- the first word is the length of the history. A book has two words, of which this one leaves the second at 0
pub record IsKept {G : Type 0} (cells : List Cell) (log : List G) : Type 0 where
  pub words : cells ≡ (length log, true) ∷ (0, true) ∷ []

abbrev pub head_of : Book → Named
head_of b = record { tracked = true; key = 0; book = b }

-- the second begins with the first, and goes on
abbrev pub IsLonger : {G : Type 0} → List G → List G → Type 0
IsLonger xs ys = IsPrefix xs ys × (length xs < length ys)

-- the entry was added to all that had been seen; or the history was longer, and was seen
abbrev pub Adds : {G : Type 0} → Step G → View G ℕ → ℕ → View G ℕ → Type 0
Adds {G} s v found w = MatchBool (found == s.old) (w.0 ≡ v.0 ++ s.ask ∷ []) (length w.0 ≡ found)
