-- What `fold` does with one line more.
use Rattle.std.proofs.Common.{◌≡◌, ◌∙◌, ap, sym, subst, ℕ, ◌+◌, List, [], ◌∷◌, ◌++◌, length, Option, refl, arith, append-nil}
use Rattle.sig_json.specs.declared.limits.TheConstants.{TOKEN_BYTES}
use Rattle.sig_receiver.specs.Receiver.{Held, StandsFor}
use Rattle.sig_set.specs.declared.trust.Trust.{Trust}
use Rattle.sig_command.specs.Telling.{IsLineOf, TakesLine}
use Rattle.sig_fold.specs.Fold.{fold_telling, journal_after, journal_of, line_text, lines_text}
use Rattle.sig_fold.specs.FoldLaws.{lines_text-append}

journal_of-append : (trust : Trust) (issuer : List ℕ) (journal : List (List ℕ)) (xs ys : List (List ℕ))
    → journal_of trust issuer journal (xs ++ ys) ≡ journal_of trust issuer (journal_of trust issuer journal xs) ys
journal_of-append trust issuer journal [] ys = refl
journal_of-append trust issuer journal (x ∷ xs) ys = journal_of-append trust issuer (journal_after trust issuer journal x) xs ys

-- what one line more prints
lines_text-more : (trust : Trust) (issuer : List ℕ) (given : List (List ℕ)) (line : List ℕ) (n : ℕ) → n ≡ length given + 1
    → lines_text trust issuer 1 [] (given ++ line ∷ []) ≡ lines_text trust issuer 1 [] given ++ line_text trust issuer n (journal_of trust issuer [] given) line
lines_text-more trust issuer given line n is =
    let same : 1 + length given ≡ n = omega arith in
    lines_text-append trust issuer 1 [] given (line ∷ [])
    ∙ ap (λ text. lines_text trust issuer 1 [] given ++ text)
    (append-nil (line_text trust issuer (1 + length given) (journal_of trust issuer [] given) line)
    ∙ ap (λ k. line_text trust issuer k (journal_of trust issuer [] given) line) same)

-- a line whose verdict is gathered, and that is kept, is taken
pub fold-takes : (trust trust' : Trust) (issuer issuer' : List ℕ) (receiver receiver' : Held) (number : ℕ) (bytes : Option (List ℕ)) (gathered gathered' : List ℕ)
    → trust' ≡ trust → issuer' ≡ issuer
    → ((line : List ℕ) (journal : List (List ℕ)) → IsLineOf TOKEN_BYTES bytes line → StandsFor receiver journal
    → gathered' ≡ gathered ++ line_text trust issuer number journal line)
    → ((line : List ℕ) (journal : List (List ℕ)) → IsLineOf TOKEN_BYTES bytes line → StandsFor receiver journal
    → StandsFor receiver' (journal_after trust issuer journal line))
    → TakesLine (fold_telling trust issuer) (λ given. StandsFor receiver (journal_of trust issuer [] given)) (λ given. StandsFor receiver' (journal_of trust' issuer' [] given))
    TOKEN_BYTES number bytes gathered gathered'
fold-takes trust trust' issuer issuer' receiver receiver' number bytes gathered gathered' same_trust same_me printed kept = λ given line stood going count is.
    let journal : List (List ℕ) = journal_of trust issuer [] given in
    let more : journal_after trust issuer journal line ≡ journal_of trust' issuer' [] (given ++ line ∷ []) =
    sym (ap (λ t. journal_of t issuer' [] (given ++ line ∷ [])) same_trust ∙ ap (λ m. journal_of trust m [] (given ++ line ∷ [])) same_me ∙ journal_of-append trust issuer [] given (line ∷ [])) in (
      subst (StandsFor receiver') more (kept line journal is stood),
      refl,
      line_text trust issuer number journal line,
      printed line journal is stood,
      lines_text-more trust issuer given line number count,
    )
