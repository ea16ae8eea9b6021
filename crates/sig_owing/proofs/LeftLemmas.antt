-- What is left of all the tokens that were made.
use Rattle.std.proofs.Common.{◌≡◌, ◌∙◌, ap, sym, ℕ, List, [], ◌∷◌, ◌++◌, map, filter, Bool, true, false, not, ◌&&◌, refl}
use Rattle.std.proofs.lemmas.Simd.{map-map}
use Rattle.std.proofs.lemmas.List.{map-append}
use Rattle.std.proofs.lemmas.List.Elements.{filter-append}
use Rattle.sig_terms.specs.declared.fact.Fact.{Fact}
use Rattle.sig_history.specs.Streams.{Parts, Made, stands}
use Rattle.sig_history.specs.Facts.{made_by, parts_after, parts_of, tokens_of}
use Rattle.sig_history.specs.Owed.{Sum, Along, is_of, takes_off, survives, owed_of, owed_after, owed_by, sum_of, empty_sum, made_along, token_in, is_left}
use Rattle.sig_owing.specs.Laws.{OwesWhatIsLeft}
use Rattle.sig_history.proofs.JoinLemmas.{filter_join, filter_mapped, filter_none, found, none_in}

map_same : (ts : List Made) → map (λ (t : Made). t) ts ≡ ts
map_same [] = refl
map_same (t ∷ ts) = ap (λ l. t ∷ l) (map_same ts)

-- they are the tokens that were made
all_along : (p : Parts) (facts : List Fact) → map token_in (made_along p facts) ≡ tokens_of p facts
all_along p [] = refl
all_along p (f ∷ fs) =
    let with_later : Made → Along = λ t. record { token = t; after = parts_after p f; later = fs } in
    map-append token_in (map with_later (made_by p f)) (made_along (parts_after p f) fs)
    ∙ ap (λ l. l ++ map token_in (made_along (parts_after p f) fs)) (map-map token_in with_later (made_by p f) ∙ map_same (made_by p f))
    ∙ ap (λ l. made_by p f ++ l) (all_along (parts_after p f) fs)

left_along : (name : List ℕ) (p : Parts) (facts : List Fact) → owed_of name p facts ≡ map token_in (filter (is_left name) (made_along p facts))
left_along name p [] = refl
left_along name p (f ∷ fs) =
    let with_later : Made → Along = λ t. record { token = t; after = parts_after p f; later = fs } in
    let last : Made → Bool = survives name (parts_after p f) fs in
    let rest : List Along = made_along (parts_after p f) fs in
    ap (λ l. l ++ owed_of name (parts_after p f) fs)
    (sym (filter_join (is_of name) last (made_by p f))
    ∙ sym (map_same (filter (λ (t : Made). is_of name t && last t) (made_by p f)))
    ∙ sym (map-map token_in with_later (filter (λ (t : Made). is_of name t && last t) (made_by p f)))
    ∙ ap (map token_in) (sym (filter_mapped (is_left name) with_later (made_by p f))))
    ∙ ap (λ l. map token_in (filter (is_left name) (map with_later (made_by p f))) ++ l) (left_along name (parts_after p f) fs)
    ∙ sym (map-append token_in (filter (is_left name) (map with_later (made_by p f))) (filter (is_left name) rest))
    ∙ ap (map token_in) (sym (filter-append (is_left name) (map with_later (made_by p f)) rest))

-- a stream that doesn't stand in the end is owed nothing
lost : (name : List ℕ) (p : Parts) (facts : List Fact) → stands name (parts_of p facts).streams ≡ false → owed_of name p facts ≡ []
lost name p [] absent = refl
lost name p (f ∷ fs) absent =
    ap (λ l. l ++ owed_of name (parts_after p f) fs) (filter_none (survives name (parts_after p f) fs) (ends name (parts_after p f) fs absent) (filter (is_of name) (made_by p f)))
    ∙ lost name (parts_after p f) fs absent
  where
    and_none : (a b : Bool) → (a && (b && false)) ≡ false
    and_none true true = refl
    and_none true false = refl
    and_none false b = refl

    ends : (name : List ℕ) (p : Parts) (facts : List Fact) → stands name (parts_of p facts).streams ≡ false → (t : Made) → survives name p facts t ≡ false
    ends name p [] absent t = absent
    ends name p (f ∷ fs) absent t = ap (λ b. stands name p.streams && (not (takes_off name f t) && b)) (ends name (parts_after p f) fs absent t) ∙ and_none (stands name p.streams) (not (takes_off name f t))

pub owes_left : OwesWhatIsLeft
owes_left sid facts name =
    let base : Sum = empty_sum sid in
    let p : Parts = parts_of base.parts facts in
    let cases : (b : Bool) → stands name p.streams ≡ b → owed_by (sum_of base facts) name ≡ owed_of name base.parts facts =
    λ b. elim b as (λ b. stands name p.streams ≡ b → owed_by (sum_of base facts) name ≡ owed_of name base.parts facts) [
      | true ↦ λ is. found (owed_after base facts) name p.streams is
      | false ↦ λ is. none_in name p.streams (owed_after base facts) is ∙ sym (lost name base.parts facts is)
    ] in
    (all_along base.parts facts, cases (stands name p.streams) refl ∙ left_along name base.parts facts)
