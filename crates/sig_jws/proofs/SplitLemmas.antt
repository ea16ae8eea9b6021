-- Texts that are cut at their dots.
use Rattle.std.proofs.Common.{◌≡◌, ℕ, ◌+◌, ◌<◌, ◌==◌, nat_lt, not, cond, List, [], ◌∷◌, ◌++◌, length, take, drop, get_or, Bool, true, false, Option, Some, None, is_some, refl, sym, ap, ◌∙◌, arith}
use Rattle.std.specs.Prelude.{Err}
use Rattle.std.specs.List.{position, position_or_len}
use Rattle.std.proofs.lemmas.Bool.{eqb-true, ltb-true, ltb-false, not-true}
use Rattle.std.proofs.lemmas.Grind.{common_steps}
use Rattle.std.proofs.lemmas.List.{append_assoc, drop_more, take_at, take-append-drop}
use Rattle.std.proofs.lemmas.List.Sums.{prefix_len_passes}
use Rattle.std.proofs.lemmas.List.Splits.{slice_split_none, slice_split_first, length-slice_split}
use Rattle.std.proofs.lemmas.List.Quantifiers.{position-Some}
use Rattle.sig_jws.specs.Compact.{cut_at_dots, dot, parts_of}
use Rattle.sig_jws.specs.declared.compact.SplitFault.TheVariants.{Dots}

-- what the test of `position` says
is_Some : (b : Bool) (n at : ℕ) → cond b (Some n) None ≡ Some at → (b ≡ true) × (n ≡ at)
is_Some true n at found = (refl, cc found)
is_Some false n at found = cc found

is_None : (b : Bool) (n : ℕ) → cond b (Some n) None ≡ None → b ≡ false
is_None true n none = cc none
is_None false n none = refl

-- the first cut is at the first dot
pub cut_at_first : (text : List ℕ) (at : ℕ) → position (λ b. b == dot) text ≡ Some at → cut_at_dots text ≡ take at text ∷ cut_at_dots (drop (at + 1) text)
cut_at_first text at found =
    let place = is_Some (nat_lt (position_or_len (λ b. b == dot) text) (length text)) (position_or_len (λ b. b == dot) text) at found in
    rw place.1 at (slice_split_first (λ b. b == dot) text 0 (ltb-true _ _ place.0))

-- where no byte is a dot, nothing is cut
pub not_cut : (text : List ℕ) → position (λ b. b == dot) text ≡ None → cut_at_dots text ≡ text ∷ []
not_cut text none =
    let past = ltb-false _ _ (is_None (nat_lt (position_or_len (λ b. b == dot) text) (length text)) (position_or_len (λ b. b == dot) text) none) in
    slice_split_none (λ b. b == dot) text
    (λ k d lt. not-true (get_or text k d == dot) (prefix_len_passes (λ b. not (b == dot)) text k d (omega (arith, past))))

-- the text is what stands before its first dot, the dot, and what stands after it
pub whole_at : (text : List ℕ) (at : ℕ) → position (λ b. b == dot) text ≡ Some at → text ≡ take at text ++ dot ∷ drop (at + 1) text
whole_at text at found =
    let place = position-Some (λ b. b == dot) text at 0 found in
    let is : get_or text at 0 ≡ dot = eqb-true _ _ place.1 in
    let lt = place.0 in
    sym (take-append-drop at text) ∙ ap (λ back. take at text ++ back) (drop_more text at 0 lt ∙ ap (λ b. b ∷ drop (at + 1) text) is)

-- some text is left after a cut, so there are four parts or more
of_four_parts : (header payload mac : List ℕ) (more : List (List ℕ)) → 0 < length more → parts_of (header ∷ payload ∷ mac ∷ more) ≡ Err Dots
of_four_parts header payload mac [] some = absurd (omega (arith, some))
of_four_parts header payload mac (part ∷ more) some = refl

pub of_a_third_dot : (header payload mac : List ℕ) → is_some (position (λ b. b == dot) mac) ≡ true → parts_of (header ∷ payload ∷ cut_at_dots mac) ≡ Err Dots
of_a_third_dot header payload mac has = by_place (position (λ b. b == dot) mac) refl has
  where
    by_place : (place : Option ℕ) → position (λ b. b == dot) mac ≡ place → is_some place ≡ true → parts_of (header ∷ payload ∷ cut_at_dots mac) ≡ Err Dots
    by_place (Some at) found has =
        let left = cut_at_dots (drop (at + 1) mac) in
        let full = length-slice_split (λ b. b == dot) (drop (at + 1) mac) in
        ap (λ parts. parts_of (header ∷ payload ∷ parts)) (cut_at_first mac at found) ∙ of_four_parts header payload (take at mac) left (omega (arith, full))
    by_place None found has = cc has

pub of_two_dots : (header payload mac : List ℕ) → is_some (position (λ b. b == dot) mac) ≡ false → cut_at_dots mac ≡ mac ∷ []
of_two_dots header payload mac has = not_cut mac (is_none (position (λ b. b == dot) mac) has)
  where
    is_none : (place : Option ℕ) → is_some place ≡ false → place ≡ None
    is_none (Some at) none = cc none
    is_none None none = refl

-- the signing input is the text up to its second dot
pub up_to_payload : (text rest header payload mac : List ℕ) → text ≡ header ++ dot ∷ rest → rest ≡ payload ++ dot ∷ mac
    → take (length header + 1 + length payload) text ≡ header ++ dot ∷ payload
up_to_payload text rest header payload mac first second =
    let input : List ℕ = header ++ dot ∷ payload in
    let whole : text ≡ input ++ dot ∷ mac = first ∙ ap (λ r. header ++ dot ∷ r) second ∙ sym (append_assoc header (dot ∷ payload) (dot ∷ mac)) in
    let size : length input ≡ length header + 1 + length payload = grind (arith, common_steps) in
    ap (take (length header + 1 + length payload)) whole ∙ take_at input (dot ∷ mac) (length header + 1 + length payload) size
