-- The lines of bytes that end with an LF.
use Rattle.std.proofs.Common.{◌≡◌, ◌∙◌, ap, ℕ, ◌<◌, ◌==◌, List, [], ◌∷◌, ◌++◌, length, refl, arith}
use Rattle.std.proofs.lemmas.List.Splits.{slice_split_at, slice_split_none, length-slice_split}
use Rattle.std.specs.List.{slice_split}
use Rattle.std.specs.Str.Lines.{strip_carriage_return}
use Rattle.sig_outside.specs.Lines.{HasNoLf}
use Rattle.sig_command.specs.WholeLines.{ended_parts, whole_lines}

ended_parts-more : (part : List ℕ) (parts : List (List ℕ)) → 0 < length parts → ended_parts (part ∷ parts) ≡ strip_carriage_return part ∷ ended_parts parts
ended_parts-more part [] h = absurd (omega arith)
ended_parts-more part (next ∷ more) h = refl

-- the first one stands before the first LF
pub whole_lines-first : (front rest : List ℕ) → HasNoLf front → whole_lines (front ++ 10 ∷ rest) ≡ strip_carriage_return front ∷ whole_lines rest
whole_lines-first front rest h =
    ap ended_parts (slice_split_at (λ b. b == 10) front 10 rest h refl)
    ∙ ended_parts-more front (slice_split (λ b. b == 10) rest) (omega (arith, length-slice_split (λ b. b == 10) rest))

-- without an LF there is none
pub whole_lines-none : (bytes : List ℕ) → HasNoLf bytes → whole_lines bytes ≡ []
whole_lines-none bytes h = ap ended_parts (slice_split_none (λ b. b == 10) bytes h)
