-- Of all tokens that are owed or made no two have one identifier.
use Rattle.std.proofs.Common.{◌≡◌, ◌∙◌, ap, sym, subst, ℕ, ◌+◌, ◌<◌, ◌≤◌, List, [], ◌∷◌, ◌++◌, map, flat_map, true, false, bytes_eq, Option, Some, None, refl, arith}
use Rattle.std.specs.Prelude.{All, ⊤}
use Rattle.std.specs.List.{AllByRecursion, IsDistinct, list_any}
use Rattle.std.proofs.lemmas.Bool.{and_parts, both_ways, false_from_ne_true, ltb-false, or_parts}
use Rattle.std.proofs.lemmas.List.Elements.{All-head, All-tail}
use Rattle.std.proofs.lemmas.List.Folds.{list_any-append}
use Rattle.sig_json.specs.declared.limits.TheConstants.{LAST_NUMBER}
use Rattle.sig_event.specs.declared.news.News.{News}
use Rattle.sig_terms.specs.declared.fact.Fact.{Fact}
use Rattle.sig_history.specs.Streams.{Count, Made, Parts, Stream, is_named, jti_of, stands}
use Rattle.sig_history.specs.Facts.{made_by, tells, time_of, token_by, token_for, tokens_of}
use Rattle.sig_history.specs.Owed.{Sum, stream_named, sum_of}
use Rattle.sig_history.specs.Sound.{Fits, is_fitting, is_past, is_sound}
use Rattle.sig_history.specs.Whole.{AreWhole, IsOwnToken, IsRising, IsWhole, IsWholeStream}
use Rattle.sig_history.proofs.StepLemmas.{AreDistinct}
use Rattle.sig_history.proofs.StreamLemmas.{same_text, text_itself}
use Rattle.sig_history.proofs.WholeLemmas.{few_past, whole_after, whole_distinct}
use Rattle.sig_fact_laws.specs.Identifiers.{IdentifiersDiffer, all_owed, jti_in}
use Rattle.sig_fact_laws.proofs.JtiLemmas.{jti_says}
use Rattle.sig_history.proofs.SpentLemmas.{all_append, all_both, all_weaker, each_named}
use Rattle.sig_fact_laws.proofs.SpentLemmas.{IsAhead, IsSpent, ahead_before, all_ahead, all_spent, owed_within, own_spent, spent_apart}

-- ---- tokens without a common identifier

abbrev IsApart : Made → Made → Type 0
IsApart t u = bytes_eq t.claims.jti u.claims.jti ≡ false

abbrev AreApart : List Made → Type 0
AreApart [] = ⊤
AreApart (t ∷ ts) = AllByRecursion (IsApart t) ts × AreApart ts

distinct_texts : (jti : List ℕ) (ts : List Made) → AllByRecursion (λ (u : Made). bytes_eq jti u.claims.jti ≡ false) ts
    → AllByRecursion (λ (text : List ℕ). bytes_eq jti text ≡ false) (map jti_in ts)
distinct_texts jti [] apart = tt
distinct_texts jti (t ∷ ts) apart = (apart.0, distinct_texts jti ts apart.1)

distinct_by : (ts : List Made) → AreApart ts → IsDistinct bytes_eq (map jti_in ts)
unfolding IsDistinct
distinct_by [] apart = tt
distinct_by (t ∷ ts) apart = (distinct_texts t.claims.jti ts apart.0, distinct_by ts apart.1)

apart_append : (ts us : List Made) → AreApart ts → AreApart us → AllByRecursion (λ t. AllByRecursion (IsApart t) us) ts → AreApart (ts ++ us)
apart_append [] us first second between = second
apart_append (t ∷ ts) us first second between =
    (all_append (IsApart t) ts us first.0 between.0, apart_append ts us first.1 second between.1)

all_spent_apart : (p : Parts) (ts us : List Made) → AllByRecursion (IsSpent p) ts → AllByRecursion (IsAhead p) us
    → AllByRecursion (λ t. AllByRecursion (IsApart t) us) ts
all_spent_apart p ts us spent ahead =
    all_weaker (IsSpent p) (λ t. AllByRecursion (IsApart t) us)
    (λ t is. all_weaker (IsAhead p) (IsApart t) (λ u may. spent_apart p t u is may) us ahead) ts spent

-- ---- tokens of one stream, and of several

-- tokens of the stream of a name, with numbers that rise
record IsGroup (sid name : List ℕ) (ts : List Made) : Type 0 where
  own : AllByRecursion (IsOwnToken sid name) ts
  low : AllByRecursion (λ (t : Made). t.number ≤ LAST_NUMBER) ts
  most : ℕ
  rising : IsRising 0 ts most

-- beside each stream its group, and each name once
abbrev AreGroups : List ℕ → List Stream → List (List Made) → Type 0
AreGroups sid [] [] = ⊤
AreGroups sid [] (o ∷ os) = ⊥
AreGroups sid (s ∷ ss) [] = ⊥
AreGroups sid (s ∷ ss) (o ∷ os) = IsGroup sid s.conf.stream o × (stands s.conf.stream ss ≡ false) × AreGroups sid ss os

-- a token that says its stream and number
record IsNumbered (sid name : List ℕ) (t : Made) : Type 0 where
  jti : t.claims.jti ≡ jti_of sid name t.number
  low : t.number ≤ LAST_NUMBER

numbered : (sid name : List ℕ) (ts : List Made) → AllByRecursion (IsOwnToken sid name) ts → AllByRecursion (λ (t : Made). t.number ≤ LAST_NUMBER) ts
    → AllByRecursion (IsNumbered sid name) ts
numbered sid name ts own low =
    all_both (IsOwnToken sid name) (λ (t : Made). t.number ≤ LAST_NUMBER) (IsNumbered sid name) (λ t is few. record { jti = is.jti; low = few }) ts own low

above_all : (below most : ℕ) (ts : List Made) → IsRising below ts most → AllByRecursion (λ (t : Made). below < t.number) ts
above_all below most [] rising = tt
above_all below most (t ∷ ts) rising =
    let less : below < t.number = rising.0 in
    (less, all_weaker (λ (u : Made). t.number < u.number) (λ (u : Made). below < u.number) (λ u more. omega arith) ts (above_all t.number most ts rising.1))

group_apart : (sid name : List ℕ) (below most : ℕ) (ts : List Made) → AllByRecursion (IsNumbered sid name) ts → IsRising below ts most → AreApart ts
group_apart sid name below most [] numbered rising = tt
group_apart sid name below most (t ∷ ts) numbered rising = (
  all_both (IsNumbered sid name) (λ (u : Made). t.number < u.number) (IsApart t)
      (λ u is more. false_from_ne_true (bytes_eq t.claims.jti u.claims.jti) (λ same.
      let says = jti_says sid name name t.number u.number numbered.0.low is.low (sym numbered.0.jti ∙ same_text t.claims.jti u.claims.jti same ∙ is.jti) in
      let number : t.number ≡ u.number = says.1 in omega arith))
      ts numbered.1 (above_all t.number most ts rising.1),
  group_apart sid name t.number most ts numbered.1 rising.1,
)

-- a token of another stream than all these
other_apart : (sid name : List ℕ) (t : Made) (ss : List Stream) (os : List (List Made)) → IsNumbered sid name t → stands name ss ≡ false → AreGroups sid ss os
    → AllByRecursion (IsApart t) (all_owed os)
other_apart sid name t [] [] is absent groups = tt
other_apart sid name t [] (o ∷ os) is absent groups = absurd groups
other_apart sid name t (s ∷ ss) [] is absent groups = absurd groups
other_apart sid name t (s ∷ ss) (o ∷ os) is absent groups =
    let parts = or_parts (is_named name s) (stands name ss) absent in
    all_append (IsApart t) o (all_owed os)
    (all_weaker (IsNumbered sid s.conf.stream) (IsApart t)
    (λ u has. false_from_ne_true (bytes_eq t.claims.jti u.claims.jti) (λ same.
    let says = jti_says sid name s.conf.stream t.number u.number is.low has.low (sym is.jti ∙ same_text t.claims.jti u.claims.jti same ∙ has.jti) in
    both_ways (is_named name s) parts.0 (text_itself s.conf.stream name (sym says.0))))
    o (numbered sid s.conf.stream o groups.0.own groups.0.low))
    (other_apart sid name t ss os is parts.1 groups.2)

groups_apart : (sid : List ℕ) (ss : List Stream) (os : List (List Made)) → AreGroups sid ss os → AreApart (all_owed os)
groups_apart sid [] [] groups = tt
groups_apart sid [] (o ∷ os) groups = absurd groups
groups_apart sid (s ∷ ss) [] groups = absurd groups
groups_apart sid (s ∷ ss) (o ∷ os) groups =
    let group : IsGroup sid s.conf.stream o = groups.0 in
    let own : AllByRecursion (IsNumbered sid s.conf.stream) o = numbered sid s.conf.stream o group.own group.low in
    apart_append o (all_owed os) (group_apart sid s.conf.stream 0 group.most o own group.rising) (groups_apart sid ss os groups.2)
    (all_weaker (IsNumbered sid s.conf.stream) (λ t. AllByRecursion (IsApart t) (all_owed os))
    (λ t is. other_apart sid s.conf.stream t ss os is groups.1 groups.2) o own)

-- ---- the tokens of a fact

flat_groups : (g : Stream → List Made) (ss : List Stream) → all_owed (map g ss) ≡ flat_map g ss
flat_groups g [] = refl
flat_groups g (s ∷ ss) = ap (λ l. g s ++ l) (flat_groups g ss)

token_group : (sid : List ℕ) (time : ℕ) (s : Stream) (o : Option News) → list_any is_past (token_by sid time s o) ≡ false
    → IsGroup sid s.conf.stream (token_by sid time s o)
token_group sid time s None few = record { own = tt; low = tt; most = 0; rising = omega arith }
token_group sid time s (Some n) few =
    let parts = or_parts _ false few in
    record {
      own = (record { stream = refl; jti = refl }, tt);
      low = (ltb-false LAST_NUMBER (s.made + 1) parts.0, tt);
      most = s.made + 1;
      rising = (omega arith, omega arith);
    }

made_groups : (sid : List ℕ) (f : Fact) (ss : List Stream) → AreDistinct ss → list_any is_past (flat_map (token_for sid f) ss) ≡ false
    → AreGroups sid ss (map (token_for sid f) ss)
made_groups sid f [] distinct few = tt
made_groups sid f (s ∷ ss) distinct few =
    let rest : List Made = flat_map (token_for sid f) ss in
    let parts = or_parts (list_any is_past (token_for sid f s)) (list_any is_past rest) (sym (list_any-append is_past (token_for sid f s) rest) ∙ few) in
    (token_group sid (time_of f) s (tells f s) parts.0, distinct.0, made_groups sid f ss distinct.1 parts.1)

made_apart : (sum : Sum) (f : Fact) → IsWhole sum → Fits sum f → AreApart (made_by sum.parts f)
made_apart sum f whole fits =
    let p : Parts = sum.parts in
    subst AreApart (flat_groups (token_for p.store_id f) p.streams)
    (groups_apart p.store_id p.streams (map (token_for p.store_id f) p.streams)
    (made_groups p.store_id f p.streams (whole_distinct p.store_id p.created p.streams sum.owed whole) (few_past sum f fits)))

-- ---- the tokens of a history

tokens_ahead : (sum : Sum) (facts : List Fact) → IsWhole sum → is_sound sum facts ≡ true → AllByRecursion (IsAhead sum.parts) (tokens_of sum.parts facts)
tokens_ahead sum [] whole sound = tt
tokens_ahead sum (f ∷ facts) whole sound =
    let next : Sum = sum_of sum (f ∷ []) in
    let both = and_parts (is_fitting sum f) (is_sound next facts) sound in
    all_append (IsAhead sum.parts) (made_by sum.parts f) (tokens_of next.parts facts) (all_ahead sum f whole both.0)
    (all_weaker (IsAhead next.parts) (IsAhead sum.parts) (λ t is. ahead_before sum f t both.0 is) (tokens_of next.parts facts)
    (tokens_ahead next facts (whole_after sum f whole both.0) both.1))

tokens_apart : (sum : Sum) (facts : List Fact) → IsWhole sum → is_sound sum facts ≡ true → AreApart (tokens_of sum.parts facts)
tokens_apart sum [] whole sound = tt
tokens_apart sum (f ∷ facts) whole sound =
    let next : Sum = sum_of sum (f ∷ []) in
    let both = and_parts (is_fitting sum f) (is_sound next facts) sound in
    let later : IsWhole next = whole_after sum f whole both.0 in
    apart_append (made_by sum.parts f) (tokens_of next.parts facts) (made_apart sum f whole both.0) (tokens_apart next facts later both.1)
    (all_spent_apart next.parts (made_by sum.parts f) (tokens_of next.parts facts) (all_spent sum f whole both.0) (tokens_ahead next facts later both.1))

-- ---- the tokens that are owed

by_recursion : (P : Made → Type 0) (ts : List Made) → All P ts → AllByRecursion P ts
by_recursion P [] all = tt
by_recursion P (t ∷ ts) all = (All-head P t ts all, by_recursion P ts (All-tail P t ts all))

owed_low : (sid : List ℕ) (created : List Count) (s : Stream) (o : List Made) → IsWholeStream sid created s o → AllByRecursion (λ (t : Made). t.number ≤ LAST_NUMBER) o
owed_low sid created s o whole =
    let low : s.made ≤ LAST_NUMBER = whole.made in
    all_weaker (λ (t : Made). t.number ≤ s.made) (λ (t : Made). t.number ≤ LAST_NUMBER) (λ t most. omega arith) o (owed_within 0 s.made o whole.rising)

owed_groups : (sid : List ℕ) (created : List Count) (ss : List Stream) (os : List (List Made)) → AreWhole sid created ss os → AreGroups sid ss os
owed_groups sid created [] [] whole = tt
owed_groups sid created [] (o ∷ os) whole = whole
owed_groups sid created (s ∷ ss) [] whole = whole
owed_groups sid created (s ∷ ss) (o ∷ os) whole = (
  record {
    own = by_recursion (IsOwnToken sid s.conf.stream) o whole.0.own;
    low = owed_low sid created s o whole.0;
    most = s.made;
    rising = whole.0.rising;
  },
  whole.1,
  owed_groups sid created ss os whole.3,
)

owed_spent : (sum : Sum) (ss : List Stream) (os : List (List Made)) → AllByRecursion (λ (s : Stream). stream_named s.conf.stream sum.parts.streams ≡ Some s) ss
    → AreWhole sum.parts.store_id sum.parts.created ss os → AllByRecursion (IsSpent sum.parts) (all_owed os)
owed_spent sum [] [] named whole = tt
owed_spent sum [] (o ∷ os) named whole = absurd whole
owed_spent sum (s ∷ ss) [] named whole = absurd whole
owed_spent sum (s ∷ ss) (o ∷ os) named whole =
    all_append (IsSpent sum.parts) o (all_owed os)
    (all_both (IsOwnToken sum.parts.store_id s.conf.stream) (λ (t : Made). t.number ≤ s.made) (IsSpent sum.parts)
    (λ t own most. own_spent sum s o t named.0 whole.0 own most) o
    (by_recursion (IsOwnToken sum.parts.store_id s.conf.stream) o whole.0.own) (owed_within 0 s.made o whole.0.rising))
    (owed_spent sum ss os named.1 whole.3)

pub identifiers_differ : IdentifiersDiffer
identifiers_differ base facts whole sound =
    let p : Parts = base.parts in
    distinct_by (all_owed base.owed ++ tokens_of p facts)
    (apart_append (all_owed base.owed) (tokens_of p facts)
    (groups_apart p.store_id p.streams base.owed (owed_groups p.store_id p.created p.streams base.owed whole))
    (tokens_apart base facts whole sound)
    (all_spent_apart p (all_owed base.owed) (tokens_of p facts)
    (owed_spent base p.streams base.owed (each_named p.streams (whole_distinct p.store_id p.created p.streams base.owed whole)) whole)
    (tokens_ahead base facts whole sound)))
