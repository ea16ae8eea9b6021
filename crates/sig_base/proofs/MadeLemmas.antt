-- The tokens of what a history comes to are as their streams make them.
use Rattle.std.proofs.Common.{◌≡◌, ◌∙◌, sym, refl, subst, ℕ, List, [], ◌∷◌, ◌++◌, map, filter, Bool, true, false, not, Option, Some, None, if◌then◌else◌}
use Rattle.std.specs.List.{AllByRecursion}
use Rattle.std.proofs.lemmas.Bool.{and_parts}
use Rattle.sig_event.specs.declared.news.News.{News}
use Rattle.sig_terms.specs.declared.fact.Fact.{Fact}
use Rattle.sig_history.specs.Streams.{Count, Made, Parts, Publication, Stream, is_before, is_named, jti_of}
use Rattle.sig_history.specs.Facts.{brought_by, removed_by, stream_after, tells, time_of, token_by, token_for}
use Rattle.sig_history.specs.Owed.{Sum, sum_of, takes_off}
use Rattle.sig_history.specs.Refused.{Refusals}
use Rattle.sig_history.specs.Sound.{Fits, is_fitting, is_sound}
use Rattle.sig_history.specs.Standings.{Standing, owed_in_standing, placed_standing, put_standing, standing_after, stream_in, sum_with, without_standing}
use Rattle.sig_history.specs.Whole.{IsWhole}
use Rattle.sig_history.proofs.JoinLemmas.{joined}
use Rattle.sig_history.proofs.StepLemmas.{Each, stepped_sum}
use Rattle.sig_history.proofs.StreamLemmas.{IsSameStream, after_same}
use Rattle.sig_history.proofs.WholeLemmas.{fits_brings, standings_of, whole_after, whole_distinct, whole_fresh, whole_with}
use Rattle.sig_owing.proofs.SoundLemmas.{unchanged}
use Rattle.sig_base.specs.declared.base.BaseToken.{BaseToken}
use Rattle.sig_base.specs.Laws.{HistoriesAreMade}
use Rattle.sig_base.specs.Sums.{AreOwedTokens, IsMade, IsOwedToken, base_token, owed_token}

-- ---- one stream

-- what a stream's tokens say rests on its name, its issuer and its audience alone
same_token : (sid : List ℕ) (s t : Stream) (b : BaseToken) → IsSameStream s t → owed_token sid s.conf b ≡ owed_token sid t.conf b
same_token sid s t b same = λ i. record {
  stream = sym same.name i;
  number = b.number;
  claims = record {
    iss = sym same.iss i;
    jti = jti_of sid (sym same.name i) b.number;
    iat = b.iat;
    aud = sym same.aud i;
    subject = b.news.subject;
    events = b.news.event ∷ [];
  };
}

same_tokens : (sid : List ℕ) (s t : Stream) (os : List Made) → IsSameStream s t → AllByRecursion (IsOwedToken sid s.conf) os → AllByRecursion (IsOwedToken sid t.conf) os
same_tokens sid s t [] same made = tt
same_tokens sid s t (o ∷ os) same made = (made.0 ∙ same_token sid s t (base_token o) same, same_tokens sid s t os same made.1)

left_tokens : (P : Made → Type 0) (p : Made → Bool) (os : List Made) → AllByRecursion P os → AllByRecursion P (filter p os)
left_tokens P p [] all = tt
left_tokens P p (o ∷ os) all =
    elim (p o) as (λ b. AllByRecursion P (if b then o ∷ filter p os else filter p os)) [
      | true ↦ (all.0, left_tokens P p os all.1)
      | false ↦ left_tokens P p os all.1
    ]

more_tokens : (P : Made → Type 0) (os ps : List Made) → AllByRecursion P os → AllByRecursion P ps → AllByRecursion P (os ++ ps)
more_tokens P [] ps first rest = rest
more_tokens P (o ∷ os) ps first rest = (first.0, more_tokens P os ps first.1 rest)

new_token : (sid : List ℕ) (time : ℕ) (s : Stream) (o : Option News) → AllByRecursion (IsOwedToken sid s.conf) (token_by sid time s o)
new_token sid time s None = tt
new_token sid time s (Some n) = (refl, tt)

-- what a stream owes is as it makes it
abbrev IsMadeOf : List ℕ → Standing → Type 0
IsMadeOf sid s = AllByRecursion (IsOwedToken sid s.stream.conf) s.owed

made_then : (sid : List ℕ) (f : Fact) (s : Standing) → IsMadeOf sid s → IsMadeOf sid (standing_after sid f s)
made_then sid f s made =
    let keeps : Made → Bool = λ t. not (takes_off s.stream.conf.stream f t) in
    same_tokens sid s.stream (stream_after f s.stream) (filter keeps s.owed ++ token_for sid f s.stream) (after_same f s.stream)
    (more_tokens (IsOwedToken sid s.stream.conf) (filter keeps s.owed) (token_for sid f s.stream)
    (left_tokens (IsOwedToken sid s.stream.conf) keeps s.owed made) (new_token sid (time_of f) s.stream (tells f s.stream)))

-- ---- all streams

all_made_then : (sid : List ℕ) (f : Fact) (ss : List Standing) → Each (IsMadeOf sid) ss → Each (IsMadeOf sid) (map (standing_after sid f) ss)
all_made_then sid f [] each = tt
all_made_then sid f (s ∷ ss) each = (made_then sid f s each.0, all_made_then sid f ss each.1)

made_without : (sid : List ℕ) (o : Option (List ℕ)) (ss : List Standing) → Each (IsMadeOf sid) ss → Each (IsMadeOf sid) (without_standing o ss)
made_without sid None ss each = each
made_without sid (Some name) [] each = tt
made_without sid (Some name) (s ∷ ss) each =
    let rest : List Standing = without_standing (Some name) ss in
    elim (is_named name s.stream) as (λ b. Each (IsMadeOf sid) (if not b then s ∷ rest else rest)) [
      | true ↦ made_without sid (Some name) ss each.1
      | false ↦ (each.0, made_without sid (Some name) ss each.1)
    ]

made_put : (sid : List ℕ) (n : Standing) (ss : List Standing) → IsMadeOf sid n → Each (IsMadeOf sid) ss → Each (IsMadeOf sid) (put_standing n ss)
made_put sid n [] new each = (new, tt)
made_put sid n (s ∷ ss) new each =
    elim (is_before s.stream n.stream) as (λ b. Each (IsMadeOf sid) (if b then s ∷ put_standing n ss else n ∷ s ∷ ss)) [
      | true ↦ (each.0, made_put sid n ss new each.1)
      | false ↦ (new, each)
    ]

made_placed : (sid : List ℕ) (o : Option Stream) (ss : List Standing) → Each (IsMadeOf sid) ss → Each (IsMadeOf sid) (placed_standing o ss)
made_placed sid None ss each = each
made_placed sid (Some s) ss each = made_put sid (record { stream = s; owed = [] }) ss tt each

-- ---- what histories come to

each_made : (sid : List ℕ) (ss : List Standing) → AreOwedTokens sid (map stream_in ss) (map owed_in_standing ss) → Each (IsMadeOf sid) ss
each_made sid [] made = tt
each_made sid (s ∷ ss) made = (made.0, each_made sid ss made.1)

made_each : (sid : List ℕ) (ss : List Standing) → Each (IsMadeOf sid) ss → AreOwedTokens sid (map stream_in ss) (map owed_in_standing ss)
made_each sid [] each = tt
made_each sid (s ∷ ss) each = (each.0, made_each sid ss each.1)

abbrev HasOwedTokens : Sum → Type 0
HasOwedTokens sum = AreOwedTokens sum.parts.store_id sum.parts.streams sum.owed

tokens_step : (sid : List ℕ) (ss : List Standing) (created : List Count) (published : List Publication) (refused : Refusals) (f : Fact)
    → IsWhole (sum_with sid ss created published refused) → Fits (sum_with sid ss created published refused) f → HasOwedTokens (sum_with sid ss created published refused)
    → HasOwedTokens (sum_of (sum_with sid ss created published refused) (f ∷ []))
tokens_step sid ss created published refused f whole fits made =
    let base : Sum = sum_with sid ss created published refused in
    let brought : Option Stream = brought_by base.parts f in
    let after : List Standing = map (standing_after sid f) ss in
    let next : List Standing = placed_standing brought (without_standing (removed_by f) after) in
    let fresh = whole_fresh sid created brought (map stream_in ss) (map owed_in_standing ss) (fits_brings base f fits) whole in
    subst HasOwedTokens
    (sym (stepped_sum sid ss created published refused f (whole_distinct sid created (map stream_in ss) (map owed_in_standing ss) whole) fresh))
    (made_each sid next (made_placed sid brought (without_standing (removed_by f) after)
    (made_without sid (removed_by f) after (all_made_then sid f ss (each_made sid ss made)))))

made_after : (sum : Sum) (f : Fact) → IsMade sum → Fits sum f → IsMade (sum_of sum (f ∷ []))
made_after sum f made fits =
    let p : Parts = sum.parts in
    record {
      whole = whole_after sum f made.whole fits;
      tokens = subst (λ s. IsWhole s → Fits s f → HasOwedTokens s → HasOwedTokens (sum_of s (f ∷ []))) (whole_with sum made.whole)
          (tokens_step p.store_id (standings_of p.streams sum.owed) p.created p.published sum.refused f) made.whole fits made.tokens;
    }

pub histories_made : HistoriesAreMade
histories_made sum [] made sound = subst IsMade (sym (unchanged sum made.whole)) made
histories_made sum (f ∷ facts) made sound =
    let both = and_parts (is_fitting sum f) (is_sound (sum_of sum (f ∷ [])) facts) sound in
    subst IsMade (sym (joined sum (f ∷ []) facts)) (histories_made (sum_of sum (f ∷ [])) facts (made_after sum f made both.0) both.1)
