-- The lines of bytes that end with an LF.
use Rattle.std.specs.Prelude.{ℕ, List, [], ◌∷◌, ◌==◌}
use Rattle.std.specs.List.{slice_split}
use Rattle.std.specs.Str.Lines.{strip_carriage_return}

-- the parts that end, but for the last one, each without the one CR at its end
abbrev pub ended_parts : List (List ℕ) → List (List ℕ)
ended_parts [] = []
ended_parts (part ∷ []) = []
ended_parts (part ∷ next ∷ more) = strip_carriage_return part ∷ ended_parts (next ∷ more)

-- the lines of bytes that end with an LF
abbrev pub whole_lines : List ℕ → List (List ℕ)
whole_lines bytes = ended_parts (slice_split (λ b. b == 10) bytes)
