-- The numbers of queries as they are parsed.
use Rattle.std.proofs.Common.{◌≡◌, ◌∙◌, ap, sym, ◌<◌, ◌^◌, ℕ, List, [], ◌∷◌, Bool, true, false, Some, None, refl, inl, inr, arith, length}
use Rattle.std.specs.Prelude.{Result, Ok, Err, nat_lt, ◌&&◌, option_and_then, if◌then◌else◌, slice_index}
use Rattle.std.specs.Result.{OkIff, result_ok}
use Rattle.std.specs.Str.{all_ascii_digits}
use Rattle.std.specs.Str.Parse.{ParsesUnsigned, digits_value}
use Rattle.std.proofs.lemmas.Bool.{lt-leb, lt-ltb}
use Rattle.std.proofs.lemmas.Bool.Decides.{leb_tells}
use Rattle.std.proofs.lemmas.Str.Parse.{IsNumeralModel, numerals_by_value, parse_plain, tells_all_ascii_digits}
use Rattle.sig_json.specs.declared.limits.TheConstants.{LAST_NUMBER}
use Rattle.sig_txroutes.specs.Places.{counted, within}

own : IsNumeralModel (λ ds. all_ascii_digits ds ≡ true) (digits_value 10)
own = numerals_by_value _ tells_all_ascii_digits

filled : (ds : List ℕ) → 48 < slice_index ds 0 → 0 < length ds
filled [] h = absurd (omega (arith, h))
filled (d ∷ ds) h = omega arith

-- what isn't parsed is no number up to the limit
unnumbered : (text : List ℕ) (first digits : Bool) → nat_lt 48 (slice_index text 0) ≡ first → all_ascii_digits text ≡ digits → 48 < slice_index text 0
    → ((all_ascii_digits text ≡ true) × (0 < length text) × (digits_value 10 text < 2 ^ 64) → ⊥)
    → None ≡ (if first && digits then within (digits_value 10 text) else None)
unnumbered text false digits a b begins none = refl
unnumbered text true false a b begins none = refl
unnumbered text true true a b begins none = sym (ap (λ t. if t then Some (digits_value 10 text) else None) (lt-leb (digits_value 10 text) LAST_NUMBER past))
  where
    past : LAST_NUMBER < digits_value 10 text
    past = elim (leb_tells (2 ^ 64) (digits_value 10 text)) [ inl p ↦ omega (arith, p.1) | inr p ↦ absurd (none (b, filled text begins, p.1)) ]

-- what is parsed of a text that begins with no zero and no sign, up to the limit
pub parsed_number : {E : Type 0} (text : List ℕ) (r : Result ℕ E) → 48 < slice_index text 0 → ParsesUnsigned 64 10 text r
    → option_and_then within (result_ok r) ≡ counted text
parsed_number {E = E} text r begins h = at r (parse_plain own 64 text r h (λ e. omega (arith, begins, e)))
  where
    at : (r : Result ℕ E) → OkIff r ((all_ascii_digits text ≡ true) × (0 < length text) × (digits_value 10 text < 2 ^ 64)) (digits_value 10 text)
        → option_and_then within (result_ok r) ≡ counted text
    at (Ok n) p = ap within p.1 ∙ sym (rw (lt-ltb 48 (slice_index text 0) begins, p.0.0) refl)
    at (Err e) none = unnumbered text (nat_lt 48 (slice_index text 0)) (all_ascii_digits text) refl refl begins none
