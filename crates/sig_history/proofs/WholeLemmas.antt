-- What is whole stays whole: one fact more that fits.
use Rattle.std.proofs.Common.{◌≡◌, ◌∙◌, ap, sym, subst, ℕ, ◌+◌, ◌<◌, ◌≤◌, List, [], ◌∷◌, ◌++◌, map, filter, flat_map, Bool, true, false, not, ◌&&◌, bytes_eq, decimal, Option, Some, None, if◌then◌else◌, refl, append-nil, arith, inl, inr, Ordering, Less, Equal, Greater, nat_cmp}
use Rattle.std.specs.Prelude.{All, ⊤, nat_lt}
use Rattle.std.specs.List.{list_any}
use Rattle.std.specs.Cmp.Lexicographic.{slice_cmp}
use Rattle.std.specs.Ordering.{is_eq, is_lt, ordering_reverse}
use Rattle.std.proofs.lemmas.Bool.{and_from, and_parts, false_from_ne_true, lt-ltb, ltb-false, ltb-true, not-true, or_cases, or_from, or_left, or_parts, or_right}
use Rattle.std.proofs.lemmas.Cmp.{nat_list_cmp_total}
use Rattle.std.proofs.lemmas.Fmt.{decimal_injective}
use Rattle.std.proofs.lemmas.List.{append_cancel_left}
use Rattle.std.proofs.lemmas.List.Elements.{All-append, All-cons, All-filter, All-nil}
use Rattle.std.proofs.lemmas.List.Folds.{list_any-append}
use Rattle.std.proofs.lemmas.Map.Text.{is_eq-slice_cmp}
use Rattle.sig_json.specs.declared.limits.TheConstants.{LAST_NUMBER}
use Rattle.sig_event.specs.declared.news.News.{News}
use Rattle.sig_terms.specs.declared.fact.Fact.{Fact}
use Rattle.sig_terms.specs.declared.fact.Fact.TheVariants.{Created, Configured, StatusSet, Listed, Unlisted, Deleted, Published, Settled, Asked}
use Rattle.sig_history.specs.Streams.{Stream, Count, Publication, Parts, Made, client_in, comes_before, count_one, created_by, hyphen, is_before, is_named, stands, stream_name}
use Rattle.sig_history.specs.Facts.{brought_by, counted, made_by, removed_by, stream_after, tells, time_of, token_by, token_for, told_one, without}
use Rattle.sig_history.specs.Owed.{Sum, sum_of, takes_off}
use Rattle.sig_history.specs.Refused.{Refusals}
use Rattle.sig_history.specs.Sound.{Fits, is_apt, is_client_name, is_long, is_next, is_past, is_small, may_be_made}
use Rattle.sig_history.specs.Standings.{Standing, owed_in_standing, placed_standing, put_standing, standing_after, stream_in, sum_with, without_standing}
use Rattle.sig_history.specs.Whole.{AreSorted, AreWhole, IsOwnToken, IsRising, IsWhole, IsWholeStream, StandsBefore}
use Rattle.sig_history.proofs.StreamLemmas.{IsSameStream, absent_without, after_same, changed_made, counts_grow, one_counted, order_after, other_text, same_text, stands_after, stands_put, text_itself}
use Rattle.sig_history.proofs.SizeLemmas.{IsSmallStream, SetsSmall, after_small, fits_sets}
use Rattle.sig_history.proofs.StepLemmas.{AreDistinct, IsFresh, after_streams, name_of, put_streams, stepped_sum, without_streams}

-- ---- streams with what they owe

abbrev pub standings_of : List Stream → List (List Made) → List Standing
standings_of [] os = []
standings_of (s ∷ ss) [] = []
standings_of (s ∷ ss) (o ∷ os) = record { stream = s; owed = o } ∷ standings_of ss os

same_streams : (sid : List ℕ) (created : List Count) (ss : List Stream) (os : List (List Made)) → AreWhole sid created ss os
    → map stream_in (standings_of ss os) ≡ ss
same_streams sid created [] os whole = refl
same_streams sid created (s ∷ ss) [] whole = absurd whole
same_streams sid created (s ∷ ss) (o ∷ os) whole = ap (λ l. s ∷ l) (same_streams sid created ss os whole.3)

same_owed : (sid : List ℕ) (created : List Count) (ss : List Stream) (os : List (List Made)) → AreWhole sid created ss os
    → map owed_in_standing (standings_of ss os) ≡ os
same_owed sid created [] [] whole = refl
same_owed sid created [] (o ∷ os) whole = absurd whole
same_owed sid created (s ∷ ss) [] whole = absurd whole
same_owed sid created (s ∷ ss) (o ∷ os) whole = ap (λ l. o ∷ l) (same_owed sid created ss os whole.3)

-- what is whole is its streams with what they owe
pub whole_with : (sum : Sum) → IsWhole sum
    → sum_with sum.parts.store_id (standings_of sum.parts.streams sum.owed) sum.parts.created sum.parts.published sum.refused ≡ sum
whole_with sum whole =
    let p : Parts = sum.parts in
    ap (λ (l : List Stream). record {
      parts = record { store_id = p.store_id; streams = l; created = p.created; published = p.published };
      owed = map owed_in_standing (standings_of p.streams sum.owed);
      refused = sum.refused;
    }) (same_streams p.store_id p.created p.streams sum.owed whole)
    ∙ ap (λ (l : List (List Made)). record { parts = p; owed = l; refused = sum.refused }) (same_owed p.store_id p.created p.streams sum.owed whole)

abbrev pub AreWholeStandings : List ℕ → List Count → List Standing → Type 0
AreWholeStandings sid created ss = AreWhole sid created (map stream_in ss) (map owed_in_standing ss)

-- each name stands once
pub whole_distinct : (sid : List ℕ) (created : List Count) (ss : List Stream) (os : List (List Made)) → AreWhole sid created ss os → AreDistinct ss
whole_distinct sid created [] os whole = tt
whole_distinct sid created (s ∷ ss) [] whole = absurd whole
whole_distinct sid created (s ∷ ss) (o ∷ os) whole = (whole.1, whole_distinct sid created ss os whole.3)

-- ---- numbers that rise

lower : (below above most : ℕ) (ts : List Made) → below ≤ above → IsRising above ts most → IsRising below ts most
lower below above most [] le rising = omega arith
lower below above most (t ∷ ts) le rising = (let k : above < t.number = rising.0 in omega arith, rising.1)

pub rising_filter : (p : Made → Bool) (below most : ℕ) (ts : List Made) → IsRising below ts most → IsRising below (filter p ts) most
rising_filter p below most [] rising = rising
rising_filter p below most (t ∷ ts) rising =
    let rest : IsRising t.number (filter p ts) most = rising_filter p t.number most ts rising.1 in
    elim (p t) as (λ b. IsRising below (if b then t ∷ filter p ts else filter p ts) most) [
      | true ↦ (rising.0, rest)
      | false ↦ (let k : below < t.number = rising.0 in lower below t.number most (filter p ts) (omega arith) rest)
    ]

pub rising_more : (below most : ℕ) (ts : List Made) (t : Made) → IsRising below ts most → t.number ≡ most + 1 → IsRising below (ts ++ t ∷ []) (most + 1)
rising_more below most [] t rising is = (omega arith, omega arith)
rising_more below most (u ∷ us) t rising is = (rising.0, rising_more u.number most us t rising.1 is)

-- ---- one stream

rising_told : (sid : List ℕ) (time : ℕ) (s t : Stream) (o : Option News) (ts : List Made) → t.made ≡ s.made → IsRising 0 ts s.made
    → IsRising 0 (ts ++ token_by sid time s o) (told_one o t).made
rising_told sid time s t None ts same rising =
    subst (λ (l : List Made). IsRising 0 l t.made) (sym (append-nil ts)) (subst (IsRising 0 ts) (sym same) rising)
rising_told sid time s t (Some n) ts same rising =
    subst (λ m. IsRising 0 (ts ++ token_by sid time s (Some n)) (m + 1)) (sym same) (rising_more 0 s.made ts _ rising refl)

own_told : (sid : List ℕ) (time : ℕ) (s : Stream) (o : Option News) → All (IsOwnToken sid s.conf.stream) (token_by sid time s o)
own_told sid time s None = All-nil (IsOwnToken sid s.conf.stream)
own_told sid time s (Some n) =
    All-cons (IsOwnToken sid s.conf.stream) _ [] (record { stream = refl; jti = refl }) (All-nil (IsOwnToken sid s.conf.stream))

made_low : (sid : List ℕ) (time : ℕ) (s t : Stream) (o : Option News) → t.made ≡ s.made → s.made ≤ LAST_NUMBER
    → list_any is_past (token_by sid time s o) ≡ false → (told_one o t).made ≤ LAST_NUMBER
made_low sid time s t None same low few = omega arith
made_low sid time s t (Some n) same low few =
    let parts = or_parts (nat_lt LAST_NUMBER (s.made + 1)) false few in
    let next : s.made + 1 ≤ LAST_NUMBER = ltb-false LAST_NUMBER (s.made + 1) parts.0 in omega arith

after_whole : (sid : List ℕ) (created : List Count) (f : Fact) (s : Standing) → SetsSmall f → list_any is_past (token_for sid f s.stream) ≡ false
    → IsWholeStream sid created s.stream s.owed → IsWholeStream sid created (standing_after sid f s).stream (standing_after sid f s).owed
after_whole sid created f s sets few whole =
    let t : Stream = stream_after f s.stream in
    let same : IsSameStream s.stream t = after_same f s.stream in
    let keeps : Made → Bool = λ u. not (takes_off (name_of s) f u) in
    record {
      name = same.name ∙ whole.name ∙ ap (λ c. stream_name c s.stream.number) (sym same.client) ∙ ap (stream_name t.client) (sym same.number);
      client = ap client_in same.name ∙ whole.client ∙ sym same.client;
      number = subst (λ c. t.number ≤ created_by c created) (sym same.client) (subst (λ n. n ≤ created_by s.stream.client created) (sym same.number) whole.number);
      top = subst (λ n. n ≤ LAST_NUMBER) (sym same.number) whole.top;
      small = after_small f s.stream sets whole.small;
      made = made_low sid (time_of f) s.stream _ (tells f s.stream) (changed_made f s.stream) whole.made few;
      rising = rising_told sid (time_of f) s.stream _ (tells f s.stream) (filter keeps s.owed) (changed_made f s.stream)
          (rising_filter keeps 0 s.stream.made s.owed whole.rising);
      own = subst (λ name. All (IsOwnToken sid name) (filter keeps s.owed ++ token_for sid f s.stream)) (sym same.name)
          (All-append (IsOwnToken sid (name_of s)) (filter keeps s.owed) (token_for sid f s.stream)
          (All-filter keeps (IsOwnToken sid (name_of s)) s.owed whole.own) (own_told sid (time_of f) s.stream (tells f s.stream)));
    }

-- ---- all streams

before_after : (f : Fact) (s : Stream) (ss : List Stream) → StandsBefore s ss → StandsBefore (stream_after f s) (map (stream_after f) ss)
before_after f s [] before = tt
before_after f s (t ∷ ts) before = order_after f s t ∙ before

all_after : (sid : List ℕ) (created : List Count) (f : Fact) (ss : List Standing) → SetsSmall f
    → list_any is_past (flat_map (token_for sid f) (map stream_in ss)) ≡ false
    → AreWholeStandings sid created ss → AreWholeStandings sid created (map (standing_after sid f) ss)
all_after sid created f [] sets few whole = tt
all_after sid created f (s ∷ ss) sets few whole =
    let rest : List Made = flat_map (token_for sid f) (map stream_in ss) in
    let parts = or_parts (list_any is_past (token_for sid f s.stream)) (list_any is_past rest)
    (sym (list_any-append is_past (token_for sid f s.stream) rest) ∙ few) in
    let streams : map stream_in (map (standing_after sid f) ss) ≡ map (stream_after f) (map stream_in ss) = after_streams sid f ss in (
      after_whole sid created f s sets parts.0 whole.0,
      ap (stands (stream_after f s.stream).conf.stream) streams ∙ stands_after (stream_after f s.stream).conf.stream f (map stream_in ss)
          ∙ ap (λ name. stands name (map stream_in ss)) (after_same f s.stream).name ∙ whole.1,
      subst (StandsBefore (stream_after f s.stream)) (sym streams) (before_after f s.stream (map stream_in ss) whole.2),
      all_after sid created f ss sets parts.1 whole.3,
    )

-- ---- a stream that is taken away

pub whole_sorted : (sid : List ℕ) (created : List Count) (ss : List Stream) (os : List (List Made)) → AreWhole sid created ss os → AreSorted ss
whole_sorted sid created [] os whole = tt
whole_sorted sid created (s ∷ ss) [] whole = absurd whole
whole_sorted sid created (s ∷ ss) (o ∷ os) whole = (whole.2, whole_sorted sid created ss os whole.3)

less_comes : (o : Ordering) → is_lt o ≡ true → o ≡ Less
less_comes Less h = refl
less_comes Equal h = cc h
less_comes Greater h = cc h

comes_before_both : (a b c : List ℕ) → comes_before a b ≡ true → comes_before b c ≡ true → comes_before a c ≡ true
comes_before_both a b c one two = ap is_lt (nat_list_cmp_total.trans a b c (less_comes _ one) (less_comes _ two))

-- what stands before a stream stands before those after it
before_both : (a b c : Stream) → is_before a b ≡ true → is_before b c ≡ true → is_before a c ≡ true
before_both a b c one two =
    let names : Bool = comes_before a.client c.client in
    let numbers : Bool = bytes_eq a.client c.client && nat_lt a.number c.number in
    elim (or_cases (comes_before a.client b.client) (bytes_eq a.client b.client && nat_lt a.number b.number) one) [
      | inl first ↦ elim (or_cases (comes_before b.client c.client) (bytes_eq b.client c.client && nat_lt b.number c.number) two) [
        | inl second ↦ or_left names numbers (comes_before_both a.client b.client c.client first second)
        | inr second ↦ let same : bytes_eq b.client c.client ≡ true = (and_parts (bytes_eq b.client c.client) (nat_lt b.number c.number) second).0 in
            or_left names numbers (subst (λ n. comes_before a.client n ≡ true) (same_text b.client c.client same) first)
      ]
      | inr first ↦ let equal = and_parts (bytes_eq a.client b.client) (nat_lt a.number b.number) first in
          let client : a.client ≡ b.client = same_text a.client b.client equal.0 in
          elim (or_cases (comes_before b.client c.client) (bytes_eq b.client c.client && nat_lt b.number c.number) two) [
            | inl second ↦ or_left names numbers (subst (λ n. comes_before n c.client ≡ true) (sym client) second)
            | inr second ↦ let other = and_parts (bytes_eq b.client c.client) (nat_lt b.number c.number) second in
                let low : a.number < b.number = ltb-true a.number b.number equal.1 in
                let high : b.number < c.number = ltb-true b.number c.number other.1 in
                or_right names numbers (and_from (bytes_eq a.client c.client) (nat_lt a.number c.number)
                (text_itself a.client c.client (client ∙ same_text b.client c.client other.0)) (lt-ltb a.number c.number (omega arith)))
          ]
    ]

before_next : (s t : Stream) (ts : List Stream) → is_before s t ≡ true → StandsBefore t ts → StandsBefore s ts
before_next s t [] before next = tt
before_next s t (u ∷ us) before next = before_both s t u before next

before_without : (s : Stream) (name : List ℕ) (ss : List Stream) → StandsBefore s ss → AreSorted ss → StandsBefore s (without (Some name) ss)
before_without s name [] before sorted = tt
before_without s name (t ∷ ts) before sorted =
    let rest : List Stream = without (Some name) ts in
    elim (is_named name t) as (λ b. StandsBefore s (if not b then t ∷ rest else rest)) [
      | true ↦ before_without s name ts (before_next s t ts before sorted.0) sorted.1
      | false ↦ before
    ]

without_whole : (sid : List ℕ) (created : List Count) (o : Option (List ℕ)) (ss : List Standing)
    → AreWholeStandings sid created ss → AreWholeStandings sid created (without_standing o ss)
without_whole sid created None ss whole = whole
without_whole sid created (Some name) [] whole = whole
without_whole sid created (Some name) (s ∷ ss) whole =
    let rest : List Standing = without_standing (Some name) ss in
    let streams : map stream_in rest ≡ without (Some name) (map stream_in ss) = without_streams (Some name) ss in
    let kept : AreWholeStandings sid created rest = without_whole sid created (Some name) ss whole.3 in
    let sorted : AreSorted (map stream_in ss) = whole_sorted sid created (map stream_in ss) (map owed_in_standing ss) whole.3 in
    elim (is_named name s.stream) as (λ b. AreWholeStandings sid created (if not b then s ∷ rest else rest)) [
      | true ↦ kept
      | false ↦ (
        whole.0,
        ap (stands (name_of s)) streams ∙ absent_without (name_of s) (Some name) (map stream_in ss) whole.1,
        subst (StandsBefore s.stream) (sym streams) (before_without s.stream name (map stream_in ss) whole.2 sorted),
        kept,
      )
    ]

-- ---- a stream that is brought

-- it is its client's next one
pub record IsNextStream (created : List Count) (s : Stream) : Type 0 where
  pub client : client_in s.conf.stream ≡ s.client
  pub proper : is_client_name s.client ≡ true
  pub name : s.conf.stream ≡ stream_name s.client s.number
  pub number : s.number ≡ created_by s.client created + 1
  pub below : created_by s.client created < LAST_NUMBER
  pub small : IsSmallStream s
  pub made : s.made ≡ 0

abbrev pub BringsNext : List Count → Option Stream → Type 0
BringsNext created None = ⊤
BringsNext created (Some s) = IsNextStream created s

pub fits_brings : (sum : Sum) (f : Fact) → Fits sum f → BringsNext sum.parts.created (brought_by sum.parts f)
fits_brings sum (Created conf time) fits =
    let client : List ℕ = client_in conf.stream in
    let count : ℕ = created_by client sum.parts.created in
    let apt = and_parts (may_be_made (made_by sum.parts (Created conf time))) (is_apt sum (Created conf time)) fits in
    let next = and_parts (is_next sum.parts client conf.stream) (is_small conf.requested conf.delivery conf.description) apt.1 in
    let low = and_parts _ (nat_lt count LAST_NUMBER) next.0 in
    let few = and_parts _ _ low.0 in
    let named = and_parts (is_client_name client) _ few.0 in
    record {
      client = refl;
      proper = named.0;
      name = same_text conf.stream _ named.1;
      number = refl;
      below = ltb-true count LAST_NUMBER low.1;
      small = next.1;
      made = refl;
    }
fits_brings sum (Configured stream requested delivery description) fits = tt
fits_brings sum (StatusSet stream status reason operator time) fits = tt
fits_brings sum (Listed stream subject) fits = tt
fits_brings sum (Unlisted stream subject) fits = tt
fits_brings sum (Deleted stream) fits = tt
fits_brings sum (Published id news time) fits = tt
fits_brings sum (Settled stream items) fits = tt
fits_brings sum (Asked stream state time) fits = tt

-- its name is new
other_name : (sid : List ℕ) (created : List Count) (n s : Stream) (o : List Made) → IsNextStream created n → IsWholeStream sid created s o
    → is_named n.conf.stream s ≡ false
other_name sid created n s o next whole =
    false_from_ne_true (is_named n.conf.stream s) (λ is.
    let name : s.conf.stream ≡ n.conf.stream = same_text s.conf.stream n.conf.stream is in
    let client : s.client ≡ n.client = sym whole.client ∙ ap client_in name ∙ next.client in
    let rest : hyphen ∷ decimal s.number ≡ hyphen ∷ decimal n.number =
    append_cancel_left n.client _ _ (ap (λ c. c ++ hyphen ∷ decimal s.number) (sym client) ∙ sym whole.name ∙ name ∙ next.name) in
    let numbers : decimal s.number ≡ decimal n.number = cc in
    let counted : s.number ≤ created_by n.client created = subst (λ c. s.number ≤ created_by c created) client whole.number in
    let below : created_by n.client created < LAST_NUMBER = next.below in
    let number : n.number ≡ created_by n.client created + 1 = next.number in
    let equal : s.number ≡ n.number = decimal_injective s.number n.number (omega arith) (omega arith) numbers in
    omega arith)

new_name : (sid : List ℕ) (created : List Count) (n : Stream) (ss : List Stream) (os : List (List Made)) → IsNextStream created n
    → AreWhole sid created ss os → stands n.conf.stream ss ≡ false
new_name sid created n [] os next whole = refl
new_name sid created n (s ∷ ss) [] next whole = absurd whole
new_name sid created n (s ∷ ss) (o ∷ os) next whole =
    or_from (is_named n.conf.stream s) (stands n.conf.stream ss) (other_name sid created n s o next whole.0) (new_name sid created n ss os next whole.3)

pub whole_fresh : (sid : List ℕ) (created : List Count) (b : Option Stream) (ss : List Stream) (os : List (List Made)) → BringsNext created b
    → AreWhole sid created ss os → IsFresh ss b
whole_fresh sid created None ss os next whole = tt
whole_fresh sid created (Some n) ss os next whole = new_name sid created n ss os next whole

-- of two other texts one comes before
pub other_comes : (a b : List ℕ) → comes_before a b ≡ false → bytes_eq a b ≡ false → comes_before b a ≡ true
other_comes a b not other =
    rw (nat_list_cmp_total.antisymm b a) (elim (slice_cmp nat_cmp a b) as (λ o. is_lt o ≡ false → is_eq o ≡ false → is_lt (ordering_reverse o) ≡ true) [
      | Less ↦ λ less other. cc
      | Equal ↦ λ less other. cc
      | Greater ↦ λ less other. refl
    ] not (is_eq-slice_cmp a b ∙ other))

-- it stands after its client's others
pub next_is_after : (sid : List ℕ) (created : List Count) (n t : Stream) (o : List Made) → IsNextStream created n → IsWholeStream sid created t o
    → is_before t n ≡ false → is_before n t ≡ true
next_is_after sid created n t o next whole not =
    let parts = or_parts (comes_before t.client n.client) (bytes_eq t.client n.client && nat_lt t.number n.number) not in
    elim (bytes_eq t.client n.client) as (λ b. bytes_eq t.client n.client ≡ b → (b && nat_lt t.number n.number) ≡ false → is_before n t ≡ true) [
      | true ↦ λ same late. let counted : t.number ≤ created_by n.client created = subst (λ c. t.number ≤ created_by c created) (same_text t.client n.client same) whole.number in
          let number : n.number ≡ created_by n.client created + 1 = next.number in
          let low : nat_lt t.number n.number ≡ true = lt-ltb t.number n.number (omega arith) in cc
      | false ↦ λ other late. or_left (comes_before n.client t.client) _ (other_comes t.client n.client parts.0 other)
    ] refl parts.1

recounted : (sid client : List ℕ) (created : List Count) (s : Stream) (o : List Made) → IsWholeStream sid created s o → IsWholeStream sid (count_one client created) s o
recounted sid client created s o whole =
    let more : created_by s.client created ≤ created_by s.client (count_one client created) = counts_grow client s.client created in
    let number : s.number ≤ created_by s.client created = whole.number in
    record {
      name = whole.name;
      client = whole.client;
      number = omega arith;
      top = whole.top;
      small = whole.small;
      made = whole.made;
      rising = whole.rising;
      own = whole.own;
    }

all_recounted : (sid client : List ℕ) (created : List Count) (ss : List Stream) (os : List (List Made)) → AreWhole sid created ss os
    → AreWhole sid (count_one client created) ss os
all_recounted sid client created [] [] whole = tt
all_recounted sid client created [] (o ∷ os) whole = whole
all_recounted sid client created (s ∷ ss) [] whole = whole
all_recounted sid client created (s ∷ ss) (o ∷ os) whole =
    (recounted sid client created s o whole.0, whole.1, whole.2, all_recounted sid client created ss os whole.3)

before_put : (s : Stream) (n : Standing) (ss : List Standing) → StandsBefore s (map stream_in ss) → is_before s n.stream ≡ true
    → StandsBefore s (map stream_in (put_standing n ss))
before_put s n [] before here = here
before_put s n (t ∷ ts) before here =
    elim (is_before t.stream n.stream) as (λ b. StandsBefore s (map stream_in (if b then t ∷ put_standing n ts else n ∷ t ∷ ts))) [ true ↦ before | false ↦ here ]

new_whole : (sid : List ℕ) (created : List Count) (n : Stream) → IsNextStream created n → IsWholeStream sid (count_one n.client created) n []
new_whole sid created n next =
    let once : created_by n.client (count_one n.client created) ≡ created_by n.client created + 1 = one_counted n.client created in
    let below : created_by n.client created < LAST_NUMBER = next.below in
    let number : n.number ≡ created_by n.client created + 1 = next.number in
    let made : n.made ≡ 0 = next.made in
    record {
      name = next.name;
      client = next.client;
      number = omega arith;
      top = omega arith;
      small = next.small;
      made = omega arith;
      rising = omega arith;
      own = All-nil (IsOwnToken sid n.conf.stream);
    }

put_whole : (sid : List ℕ) (created : List Count) (n : Stream) (ss : List Standing) → IsNextStream created n
    → stands n.conf.stream (map stream_in ss) ≡ false → AreWholeStandings sid created ss
    → AreWholeStandings sid (count_one n.client created) (put_standing (record { stream = n; owed = [] }) ss)
put_whole sid created n [] next fresh whole = (new_whole sid created n next, refl, tt, tt)
put_whole sid created n (s ∷ ss) next fresh whole =
    let new : Standing = record { stream = n; owed = [] } in
    let apart = or_parts (is_named n.conf.stream s.stream) (stands n.conf.stream (map stream_in ss)) fresh in
    elim (is_before s.stream n) as (λ b. is_before s.stream n ≡ b → AreWholeStandings sid (count_one n.client created) (if b then s ∷ put_standing new ss else new ∷ s ∷ ss)) [
      | true ↦ λ before. (
        recounted sid n.client created s.stream s.owed whole.0,
        ap (stands (name_of s)) (put_streams new ss) ∙ stands_put (name_of s) n (map stream_in ss)
            ∙ or_from (is_named (name_of s) n) (stands (name_of s) (map stream_in ss)) (other_text (name_of s) n.conf.stream apart.0) whole.1,
        before_put s.stream new ss whole.2 before,
        put_whole sid created n ss next apart.1 whole.3,
      )
      | false ↦ λ after. (
        new_whole sid created n next,
        fresh,
        next_is_after sid created n s.stream s.owed next whole.0 after,
        all_recounted sid n.client created (map stream_in (s ∷ ss)) (map owed_in_standing (s ∷ ss)) whole,
      )
    ] refl

placed_whole : (sid : List ℕ) (created : List Count) (b : Option Stream) (ss : List Standing) → BringsNext created b
    → AreWholeStandings sid created ss → AreWholeStandings sid (counted b created) (placed_standing b ss)
placed_whole sid created None ss next whole = whole
placed_whole sid created (Some n) ss next whole =
    put_whole sid created n ss next (new_name sid created n (map stream_in ss) (map owed_in_standing ss) next whole) whole

-- ---- one fact more

pub few_past : (sum : Sum) (f : Fact) → Fits sum f → list_any is_past (made_by sum.parts f) ≡ false
few_past sum f fits =
    let tokens : List Made = made_by sum.parts f in
    not-true (list_any is_past tokens) (and_parts (not (list_any is_past tokens)) (not (is_long tokens))
    (and_parts (may_be_made tokens) (is_apt sum f) fits).0).0

whole_step : (sid : List ℕ) (ss : List Standing) (created : List Count) (published : List Publication) (refused : Refusals) (f : Fact)
    → IsWhole (sum_with sid ss created published refused) → Fits (sum_with sid ss created published refused) f
    → IsWhole (sum_of (sum_with sid ss created published refused) (f ∷ []))
whole_step sid ss created published refused f whole fits =
    let base : Sum = sum_with sid ss created published refused in
    let brought : Option Stream = brought_by base.parts f in
    let next : BringsNext created brought = fits_brings base f fits in
    subst IsWhole
    (sym (stepped_sum sid ss created published refused f (whole_distinct sid created (map stream_in ss) (map owed_in_standing ss) whole)
    (whole_fresh sid created brought (map stream_in ss) (map owed_in_standing ss) next whole)))
    (placed_whole sid created brought (without_standing (removed_by f) (map (standing_after sid f) ss)) next
    (without_whole sid created (removed_by f) (map (standing_after sid f) ss)
    (all_after sid created f ss (fits_sets base f fits) (few_past base f fits) whole)))

pub whole_after : (sum : Sum) (f : Fact) → IsWhole sum → Fits sum f → IsWhole (sum_of sum (f ∷ []))
whole_after sum f whole fits =
    let p : Parts = sum.parts in
    subst (λ s. IsWhole s → Fits s f → IsWhole (sum_of s (f ∷ []))) (whole_with sum whole)
    (whole_step p.store_id (standings_of p.streams sum.owed) p.created p.published sum.refused f) whole fits
