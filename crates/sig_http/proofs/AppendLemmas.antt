-- Bytes that are added last, one piece after the other.
use Rattle.std.proofs.Common.{◌≡◌, ℕ, List, ◌++◌, ap, ◌∙◌, append_assoc}

-- one more piece
pub added : (old new so_far piece : List ℕ) → new ≡ old ++ piece → old ≡ so_far → new ≡ so_far ++ piece
added old new so_far piece e f = e ∙ ap (λ l. l ++ piece) f

-- the same piece by another name
pub added_as : (old new piece other : List ℕ) → new ≡ old ++ piece → piece ≡ other → new ≡ old ++ other
added_as old new piece other e f = e ∙ ap (λ l. old ++ l) f

-- five pieces after what stood
pub five : (old a b c d e : List ℕ) → ((((old ++ a) ++ b) ++ c) ++ d) ++ e ≡ old ++ ((((a ++ b) ++ c) ++ d) ++ e)
five old a b c d e = simp append_assoc

-- four
pub four : (old a b c d : List ℕ) → (((old ++ a) ++ b) ++ c) ++ d ≡ old ++ (((a ++ b) ++ c) ++ d)
four old a b c d = simp append_assoc

-- three
pub three : (old a b c : List ℕ) → ((old ++ a) ++ b) ++ c ≡ old ++ ((a ++ b) ++ c)
three old a b c = simp append_assoc
