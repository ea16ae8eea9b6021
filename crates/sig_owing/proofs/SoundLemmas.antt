-- Sound histories: they join, what they come to is whole, and what that says of streams and numbers.
use Rattle.std.proofs.Common.{◌≡◌, ◌∙◌, ap, sym, subst, ℕ, List, [], ◌∷◌, ◌++◌, map, filter, Bool, true, false, ◌&&◌, if◌then◌else◌, refl, append-nil, arith}
use Rattle.std.proofs.lemmas.Bool.{and_from, and_parts}
use Rattle.std.proofs.lemmas.Simd.{map-map}
use Rattle.sig_terms.specs.declared.fact.Fact.{Fact}
use Rattle.sig_terms.specs.declared.fact.Fact.TheVariants.{Created, Configured, StatusSet, Listed, Unlisted, Deleted, Published, Settled, Asked}
use Rattle.sig_terms.specs.declared.fact.SettledItem.{SettledItem}
use Rattle.sig_history.specs.Streams.{Stream, Count, Publication, Parts, Made, is_named, stands}
use Rattle.sig_history.specs.Facts.{made_by}
use Rattle.sig_history.specs.Owed.{Sum, empty_sum, owed_after, owed_by, owed_in, sum_of, survives}
use Rattle.sig_history.specs.Sound.{Fits, are_owed, each_once, is_fitting, is_sound, may_be_made}
use Rattle.sig_history.specs.Refused.{Refusals}
use Rattle.sig_history.specs.Standings.{Standing, owed_in_standing, stream_in, sum_with}
use Rattle.sig_history.specs.Whole.{AreWhole, IsRising, IsWhole}
use Rattle.sig_owing.specs.Laws.{OwedNumbersRise, SoundHistoriesAreWhole, SoundHistoriesJoin, StreamsAreSorted}
use Rattle.sig_history.proofs.JoinLemmas.{found, joined}
use Rattle.sig_history.proofs.StepLemmas.{Each, all_own, all_stand, each_and, filter_all, map_each, name_of}
use Rattle.sig_history.proofs.WholeLemmas.{standings_of, whole_after, whole_distinct, whole_sorted, whole_with}

-- ---- no fact more

-- what a stream that stands owes stays under no fact
owed_still : (base : Sum) (name : List ℕ) → stands name base.parts.streams ≡ true → owed_after base [] name ≡ owed_by base name
owed_still base name here =
    append-nil (filter (survives name base.parts []) (owed_by base name))
    ∙ filter_all (survives name base.parts []) (λ (t : Made). here) (owed_by base name)

-- what fits a base fits what it comes to by no fact
settled_again : (base : Sum) (name : List ℕ) (items : List SettledItem) (b : Bool) → stands name base.parts.streams ≡ b
    → (b && are_owed items (owed_by base name) && each_once items)
    ≡ (b && are_owed items (owed_by (sum_of base []) name) && each_once items)
settled_again base name items true here =
    ap (λ l. are_owed items l && each_once items)
    (sym (owed_still base name here) ∙ sym (found (owed_after base []) name base.parts.streams here))
settled_again base name items false absent = refl

fitting_again : (base : Sum) (f : Fact) → is_fitting base f ≡ is_fitting (sum_of base []) f
fitting_again base (Created conf time) = refl
fitting_again base (Configured stream requested delivery description) = refl
fitting_again base (StatusSet stream status reason operator time) = refl
fitting_again base (Listed stream subject) = refl
fitting_again base (Unlisted stream subject) = refl
fitting_again base (Deleted stream) = refl
fitting_again base (Published id news time) = refl
fitting_again base (Settled stream items) =
    ap (λ b. may_be_made (made_by base.parts (Settled stream items)) && b)
    (settled_again base stream items (stands stream base.parts.streams) refl)
fitting_again base (Asked stream state time) = refl

sound_again : (base : Sum) (facts : List Fact) → is_sound base facts ≡ is_sound (sum_of base []) facts
sound_again base [] = refl
sound_again base (f ∷ fs) =
    ap (λ b. b && is_sound (sum_of base (f ∷ [])) fs) (fitting_again base f)
    ∙ ap (λ s. is_fitting (sum_of base []) f && is_sound s fs) (joined base [] (f ∷ []))

-- ---- sound histories join

and_join : (a b c : Bool) → (a && (b && c)) ≡ ((a && b) && c)
and_join true b c = refl
and_join false b c = refl

pub sound_joined : SoundHistoriesJoin
sound_joined base [] second = sound_again base second
sound_joined base (f ∷ first) second =
    let next : Sum = sum_of base (f ∷ []) in
    ap (λ b. is_fitting base f && b) (sound_joined next first second)
    ∙ and_join (is_fitting base f) (is_sound next first) (is_sound (sum_of next first) second)
    ∙ ap (λ s. (is_fitting base f && is_sound next first) && is_sound s second) (sym (joined base (f ∷ []) first))

and_true : (b : Bool) → (b && true) ≡ b
and_true true = refl
and_true false = refl

-- a sound history goes on by a fact that fits
pub sound_more : (base : Sum) (facts : List Fact) (f : Fact) → is_sound base facts ≡ true → Fits (sum_of base facts) f
    → is_sound base (facts ++ f ∷ []) ≡ true
sound_more base facts f sound fits =
    sound_joined base facts (f ∷ [])
    ∙ and_from (is_sound base facts) (is_fitting (sum_of base facts) f && true) sound (and_true (is_fitting (sum_of base facts) f) ∙ fits)

-- ---- what sound histories come to is whole

unchanged_with : (sid : List ℕ) (ss : List Standing) (created : List Count) (published : List Publication) (refused : Refusals)
    → IsWhole (sum_with sid ss created published refused) → sum_of (sum_with sid ss created published refused) [] ≡ sum_with sid ss created published refused
unchanged_with sid ss created published refused whole =
    let base : Sum = sum_with sid ss created published refused in
    let each : Each (λ s. owed_after base [] (name_of s) ≡ s.owed) ss =
    each_and (λ s. stands (name_of s) (map stream_in ss) ≡ true) (λ s. owed_in (name_of s) (map stream_in ss) (map owed_in_standing ss) ≡ s.owed)
    (λ s. owed_after base [] (name_of s) ≡ s.owed)
    (λ s here own. owed_still base (name_of s) here ∙ own) ss (all_stand ss)
    (all_own ss (whole_distinct sid created (map stream_in ss) (map owed_in_standing ss) whole)) in
    ap (λ (l : List (List Made)). record { parts = base.parts; owed = l; refused = refused })
    (map-map (λ (s : Stream). owed_after base [] s.conf.stream) stream_in ss
    ∙ map_each (λ s. owed_after base [] (name_of s)) owed_in_standing ss each)

-- no fact changes nothing of what is whole
pub unchanged : (sum : Sum) → IsWhole sum → sum_of sum [] ≡ sum
unchanged sum whole =
    let p : Parts = sum.parts in
    subst (λ s. IsWhole s → sum_of s [] ≡ s) (whole_with sum whole)
    (unchanged_with p.store_id (standings_of p.streams sum.owed) p.created p.published sum.refused) whole

pub sound_whole : SoundHistoriesAreWhole
sound_whole base [] whole sound = subst IsWhole (sym (unchanged base whole)) whole
sound_whole base (f ∷ facts) whole sound =
    let both = and_parts (is_fitting base f) (is_sound (sum_of base (f ∷ [])) facts) sound in
    subst IsWhole (sym (joined base (f ∷ []) facts))
    (sound_whole (sum_of base (f ∷ [])) facts (whole_after base f whole both.0) both.1)

-- ---- over a new store

pub streams_sorted : StreamsAreSorted
streams_sorted store_id facts sound =
    let sum : Sum = sum_of (empty_sum store_id) facts in
    whole_sorted sum.parts.store_id sum.parts.created sum.parts.streams sum.owed (sound_whole (empty_sum store_id) facts tt sound)

pub whole_rising : (name sid : List ℕ) (created : List Count) (ss : List Stream) (os : List (List Made)) → AreWhole sid created ss os
    → (most : ℕ) × IsRising 0 (owed_in name ss os) most
whole_rising name sid created [] os whole = (0, omega arith)
whole_rising name sid created (s ∷ ss) [] whole = absurd whole
whole_rising name sid created (s ∷ ss) (o ∷ os) whole =
    elim (is_named name s) as (λ b. (most : ℕ) × IsRising 0 (if b then o else owed_in name ss os) most) [
      | true ↦ (s.made, whole.0.rising)
      | false ↦ whole_rising name sid created ss os whole.3
    ]

pub numbers_rise : OwedNumbersRise
numbers_rise store_id facts name sound =
    let sum : Sum = sum_of (empty_sum store_id) facts in
    whole_rising name sum.parts.store_id sum.parts.created sum.parts.streams sum.owed (sound_whole (empty_sum store_id) facts tt sound)
