-- The words after the name of `fold`.
use Rattle.std.proofs.Common.{◌≡◌, ◌≢◌, List, [], ◌∷◌, map, length, get_or, None, refl, arith}
use Rattle.std.specs.Prelude.{String, string_bytes}
use Rattle.std.specs.declared.alloc.Global.{Global}
use Rattle.sig_program.specs.Command.{fold_command, fold_words}

pub of_three : (words : List (String Global)) (a b c : String Global) → length words ≡ 3 → a ≡ get_or words 0 a → b ≡ get_or words 1 b → c ≡ get_or words 2 c
    → fold_command (string_bytes a) (string_bytes b) (string_bytes c) ≡ fold_words (map (λ word. string_bytes word) words)
of_three [] a b c three one two last = absurd (omega arith)
of_three (x ∷ []) a b c three one two last = absurd (omega arith)
of_three (x ∷ y ∷ []) a b c three one two last = absurd (omega arith)
of_three (x ∷ y ∷ z ∷ []) a b c three one two last = rw (one, two, last) refl
of_three (x ∷ y ∷ z ∷ w ∷ words) a b c three one two last = absurd (omega arith)

pub of_others : (words : List (String Global)) → length words ≢ 3 → None ≡ fold_words (map (λ word. string_bytes word) words)
of_others [] other = refl
of_others (x ∷ []) other = refl
of_others (x ∷ y ∷ []) other = refl
of_others (x ∷ y ∷ z ∷ []) other = absurd (other refl)
of_others (x ∷ y ∷ z ∷ w ∷ words) other = refl
