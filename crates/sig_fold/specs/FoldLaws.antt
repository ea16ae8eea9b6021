-- The laws of `fold` over the lines of its input.
use Rattle.std.specs.Prelude.{◌≡◌, ℕ, ◌+◌, List, [], ◌∷◌, ◌++◌, length, None, Some, IfSome, refl}
use Rattle.std.proofs.Common.{◌∙◌, ap, sym, subst, add-zero, add_assoc, append_assoc}
use Rattle.std.proofs.Math.Numerals.{one-add}
use Rattle.sig_set.specs.declared.trust.Trust.{Trust}
use Rattle.sig_command.specs.declared.stop.Stop.{Stop}
use Rattle.sig_fold.specs.Fold.{fold_telling, journal_after, journal_of, line_text, lines_text}

pub lines_text-append : (trust : Trust) (issuer : List ℕ) (n : ℕ) (journal : List (List ℕ)) (xs ys : List (List ℕ))
    → lines_text trust issuer n journal (xs ++ ys) ≡ lines_text trust issuer n journal xs ++ lines_text trust issuer (n + length xs) (journal_of trust issuer journal xs) ys
lines_text-append trust issuer n journal [] ys = ap (λ k. lines_text trust issuer k journal ys) (sym (add-zero n))
lines_text-append trust issuer n journal (x ∷ xs) ys =
    let same : (n + 1) + length xs ≡ n + length (x ∷ xs) = add_assoc n 1 (length xs) ∙ ap (λ k. n + k) (one-add (length xs)) in
    ap (λ text. line_text trust issuer n journal x ++ text)
    (lines_text-append trust issuer (n + 1) (journal_after trust issuer journal x) xs ys
    ∙ ap (λ k. lines_text trust issuer (n + 1) (journal_after trust issuer journal x) xs ++ lines_text trust issuer k (journal_of trust issuer (journal_after trust issuer journal x) xs) ys) same)
    ∙ sym (append_assoc (line_text trust issuer n journal x) _ _)

-- no lines print nothing, and stop nothing
pub fold-starts : (trust : Trust) (issuer : List ℕ) → ((fold_telling trust issuer).text [] ≡ []) × ((fold_telling trust issuer).stop [] ≡ None)
fold-starts trust issuer = (refl, refl)

-- more lines print more
pub fold-grows : (trust : Trust) (issuer : List ℕ) (given more : List (List ℕ))
    → (rest : List ℕ) × ((fold_telling trust issuer).text (given ++ more) ≡ (fold_telling trust issuer).text given ++ rest)
fold-grows trust issuer given more =
    (lines_text trust issuer (1 + length given) (journal_of trust issuer [] given) more, lines_text-append trust issuer 1 [] given more)

-- where a line stopped it, but none does, more lines change nothing
pub fold-stays : (trust : Trust) (issuer : List ℕ) (given more : List (List ℕ)) (s : Stop) → (fold_telling trust issuer).stop given ≡ Some s
    → ((fold_telling trust issuer).stop (given ++ more) ≡ Some s) × ((fold_telling trust issuer).text (given ++ more) ≡ (fold_telling trust issuer).text given)
fold-stays trust issuer given more s stopped = absurd (subst (λ o. IfSome o (λ stop. ⊥)) stopped tt)
