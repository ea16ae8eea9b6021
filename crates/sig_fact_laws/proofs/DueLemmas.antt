-- A publication makes a token exactly for the streams that are due one.
use Rattle.std.proofs.Common.{◌≡◌, ◌∙◌, sym, subst, ℕ, List, [], ◌∷◌, filter, Bool, true, false, not, ◌&&◌, Option, Some, None, if◌then◌else◌, refl, inl, inr}
use Rattle.std.specs.Prelude.{Contains}
use Rattle.std.specs.List.{list_any}
use Rattle.std.specs.Option.{option_map_or}
use Rattle.std.proofs.lemmas.Bool.{and_from, and_parts, both_ways, not-true, or_cases, or_left, or_right}
use Rattle.std.proofs.lemmas.Map.Views.{Contains-from_any, list_any-from_Contains}
use Rattle.sig_subject.specs.Matching.{agrees, all_agree, is_identical, is_matching, part_named}
use Rattle.sig_subject.specs.declared.member.Member.{Member}
use Rattle.sig_subject.specs.declared.simple.Simple.{Simple}
use Rattle.sig_subject.specs.declared.subject.Subject.{Subject}
use Rattle.sig_subject.specs.declared.subject.Subject.TheVariants as subject
use Rattle.sig_subject.proofs.Identity.{decides_identity, identity_equiv, simple_same, simple_sound}
use Rattle.sig_event.specs.Events.{uri_of}
use Rattle.sig_event.specs.declared.news.News.{News}
use Rattle.sig_event.specs.declared.status.Status.{Status}
use Rattle.sig_event.specs.declared.status.Status.TheVariants as status
use Rattle.sig_terms.specs.Fitting.{delivers, fits}
use Rattle.sig_terms.specs.declared.fact.Fact.{Fact}
use Rattle.sig_terms.specs.declared.fact.Fact.TheVariants.{Published}
use Rattle.sig_terms.specs.declared.want.Defaults.{Defaults}
use Rattle.sig_terms.specs.declared.want.Defaults.TheVariants as defaults
use Rattle.sig_history.specs.Facts.{made_by, token_by, token_for}
use Rattle.sig_history.specs.Owed.{is_of, stream_named}
use Rattle.sig_history.specs.Streams.{Made, Stream, is_disabled, is_due, next_token}
use Rattle.sig_history.proofs.ChangeLemmas.{named_is}
use Rattle.sig_history.proofs.StreamLemmas.{same_text, text_itself}
use Rattle.sig_history.proofs.WholeLemmas.{whole_distinct}
use Rattle.sig_owing.proofs.OwedStepLemmas.{tokens_named}
use Rattle.sig_fact_laws.specs.Due.{Has, IsDue, MakesTokenFor, Matches, StandsDue, TokensAreMadeWhereDue}
use Rattle.sig_fact_laws.proofs.MemberLemmas.{first_there, kept_there, later_there, none_there, there_before, there_cases}
use Rattle.sig_fact_laws.proofs.TypeLemmas.{delivers_means, delivers_where}

-- ---- subjects that match

agrees_means : (s other : Simple) (o : Option Simple) → agrees true s o ≡ true → o ≡ Some other → s ≡ other
agrees_means s other None h is = cc is
agrees_means s other (Some t) h is = simple_sound s t h ∙ (let same : t ≡ other = cc in same)

agrees_where : (s : Simple) (o : Option Simple) → ((other : Simple) → o ≡ Some other → s ≡ other) → agrees true s o ≡ true
agrees_where s None same = refl
agrees_where s (Some t) same = subst (λ u. agrees true s (Some u) ≡ true) (same t refl) (simple_same s)

parts_mean : (xs ys : List Member) (m : Member) (other : Simple) → all_agree true xs ys ≡ true → Contains xs m
    → part_named m.name ys ≡ Some other → m.simple ≡ other
parts_mean [] ys m other h there is = absurd (none_there m there)
parts_mean (x ∷ xs) ys m other h there is =
    let both = and_parts (agrees true x.simple (part_named x.name ys)) (all_agree true xs ys) h in
    elim (there_cases x m xs there) [
      | inl same ↦ agrees_means m.simple other (part_named m.name ys)
          (subst (λ (k : Member). agrees true k.simple (part_named k.name ys) ≡ true) same both.0) is
      | inr later ↦ parts_mean xs ys m other both.1 later is
    ]

parts_where : (xs ys : List Member)
    → ((m : Member) (other : Simple) → Contains xs m → part_named m.name ys ≡ Some other → m.simple ≡ other) → all_agree true xs ys ≡ true
parts_where [] ys each = refl
parts_where (x ∷ xs) ys each =
    and_from (agrees true x.simple (part_named x.name ys)) (all_agree true xs ys)
    (agrees_where x.simple (part_named x.name ys) (λ other is. each x other (first_there x xs) is))
    (parts_where xs ys (λ m other there is. each m other (later_there x m xs there) is))

matching_means : (a b : Subject) → is_matching a b ≡ true → Matches a b
matching_means (subject.Simple a) (subject.Simple b) h = simple_sound a b h
matching_means (subject.Simple a) (subject.Complex ys) h = cc h
matching_means (subject.Complex xs) (subject.Simple b) h = cc h
matching_means (subject.Complex xs) (subject.Complex ys) h = λ m other there is. parts_mean xs ys m other h there is

matching_where : (a b : Subject) → Matches a b → is_matching a b ≡ true
matching_where (subject.Simple a) (subject.Simple b) h = subst (λ c. is_matching (subject.Simple a) (subject.Simple c) ≡ true) h (simple_same a)
matching_where (subject.Simple a) (subject.Complex ys) h = absurd h
matching_where (subject.Complex xs) (subject.Simple b) h = absurd h
matching_where (subject.Complex xs) (subject.Complex ys) h = parts_where xs ys h

-- ---- subjects of a stream

abbrev IsMatched : List Subject → Subject → Type 0
IsMatched added subject = (one : Subject) × Contains added one × Matches subject one

matched_means : (added : List Subject) (a : Subject) → list_any (is_matching a) added ≡ true → IsMatched added a
matched_means [] a h = cc h
matched_means (l ∷ ls) a h = elim (or_cases (is_matching a l) (list_any (is_matching a) ls) h) [
  | inl this ↦ (l, first_there l ls, matching_means a l this)
  | inr later ↦ let (one, there, matches) = matched_means ls a later in (one, later_there l one ls there, matches)
]

matched_where : (added : List Subject) (a : Subject) (one : Subject) → Contains added one → Matches a one → list_any (is_matching a) added ≡ true
matched_where [] a one there matches = absurd (none_there one there)
matched_where (l ∷ ls) a one there matches = elim (there_cases l one ls there) [
  | inl same ↦ or_left (is_matching a l) (list_any (is_matching a) ls) (matching_where a l (subst (Matches a) (sym same) matches))
  | inr later ↦ or_right (is_matching a l) (list_any (is_matching a) ls) (matched_where ls a one later matches)
]

same_subject : (a b : Subject) → is_identical a b ≡ true → a ≡ b
same_subject a b h = (decides_identity a b).0 h

has_means : (d : Defaults) (listed : List Subject) (a : Subject) → fits d listed a ≡ true → Has d listed a
has_means defaults.All listed a h =
    λ there. both_ways (list_any (is_identical a) listed) (not-true (list_any (is_identical a) listed) h) (list_any-from_Contains identity_equiv a listed there)
has_means defaults.None listed a h = matched_means listed a h

has_where : (d : Defaults) (listed : List Subject) (a : Subject) → Has d listed a → fits d listed a ≡ true
has_where defaults.All listed a apart =
    elim (list_any (is_identical a) listed) as (λ b. list_any (is_identical a) listed ≡ b → not b ≡ true) [
      | true ↦ λ any. absurd (apart (Contains-from_any same_subject a listed any))
      | false ↦ λ none. refl
    ] refl
has_where defaults.None listed a matched = let (one, there, matches) = matched in matched_where listed a one there matches

-- ---- what is due

on_means : (s : Status) → not (is_disabled s) ≡ true → s ≡ status.Disabled → ⊥
on_means status.Enabled h is = cc is
on_means status.Paused h is = cc is
on_means status.Disabled h is = cc h

on_where : (s : Status) → (s ≡ status.Disabled → ⊥) → not (is_disabled s) ≡ true
on_where status.Enabled apart = refl
on_where status.Paused apart = refl
on_where status.Disabled apart = absurd (apart refl)

due_means : (n : News) (s : Stream) → is_due n s ≡ true → IsDue n s
due_means n s h =
    let two = and_parts (not (is_disabled s.status) && delivers s.conf (uri_of n.event)) (fits s.conf.defaults s.listed n.subject) h in
    let one = and_parts (not (is_disabled s.status)) (delivers s.conf (uri_of n.event)) two.0 in
    record { on = on_means s.status one.0; delivered = delivers_means s.conf (uri_of n.event) one.1; subject = has_means s.conf.defaults s.listed n.subject two.1 }

due_where : (n : News) (s : Stream) → IsDue n s → is_due n s ≡ true
due_where n s due =
    and_from (not (is_disabled s.status) && delivers s.conf (uri_of n.event)) (fits s.conf.defaults s.listed n.subject)
    (and_from (not (is_disabled s.status)) (delivers s.conf (uri_of n.event)) (on_where s.status due.on) (delivers_where s.conf (uri_of n.event) due.delivered))
    (has_where s.conf.defaults s.listed n.subject due.subject)

-- ---- the tokens of a publication

-- a token that is made for the stream of a name is the one of the stream that stands
told_due : (sid id : List ℕ) (n : News) (time : ℕ) (t : Made) (o : Option Stream) → Contains (option_map_or (token_for sid (Published id n time)) o []) t
    → (s : Stream) × (o ≡ Some s) × IsDue n s
told_due sid id n time t None there = absurd (none_there t there)
told_due sid id n time t (Some s) there = by (is_due n s) refl there
  where
    by : (b : Bool) → is_due n s ≡ b → Contains (token_by sid time s (if b then Some n else None)) t → (u : Stream) × (Some s ≡ Some u) × IsDue n u
    by true due h = (s, refl, due_means n s due)
    by false not h = absurd (none_there t h)

due_told : (sid id : List ℕ) (n : News) (time : ℕ) (s : Stream) → IsDue n s
    → Contains (token_for sid (Published id n time) s) (next_token sid n time s)
due_told sid id n time s due =
    subst (λ b. Contains (token_by sid time s (if b then Some n else None)) (next_token sid n time s)) (sym (due_where n s due))
    (first_there (next_token sid n time s) [])

pub tokens_due : TokensAreMadeWhereDue
tokens_due sum id n time name whole = (means, where_due)
  where
    f : Fact
    f = Published id n time

    sid : List ℕ
    sid = sum.parts.store_id

    named : filter (is_of name) (made_by sum.parts f) ≡ option_map_or (token_for sid f) (stream_named name sum.parts.streams) []
    named = tokens_named name sid f sum.parts.streams (whole_distinct sid sum.parts.created sum.parts.streams sum.owed whole)

    means : MakesTokenFor sum f name → StandsDue sum n name
    means (t, there, is) =
        told_due sid id n time t (stream_named name sum.parts.streams)
        (subst (λ l. Contains l t) named (kept_there (is_of name) (made_by sum.parts f) t there (text_itself t.stream name is)))

    where_due : StandsDue sum n name → MakesTokenFor sum f name
    where_due (s, is, due) =
        let t : Made = next_token sid n time s in
        let told : Contains (option_map_or (token_for sid f) (stream_named name sum.parts.streams) []) t =
        subst (λ o. Contains (option_map_or (token_for sid f) o []) t) (sym is) (due_told sid id n time s due) in (
          t,
          there_before (is_of name) (made_by sum.parts f) t (subst (λ l. Contains l t) (sym named) told),
          same_text s.conf.stream name (named_is name sum.parts.streams s is),
        )
