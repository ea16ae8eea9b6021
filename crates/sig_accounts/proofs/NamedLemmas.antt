-- Which publication a debt tells, whatever fact comes: the first that made a token of its stream and number.
use Rattle.std.proofs.Common.{◌≡◌, ◌∙◌, ap, sym, subst, ℕ, ◌+◌, ◌<◌, ◌≤◌, List, [], ◌∷◌, ◌++◌, length, map, filter, drop, get_or, zero, suc, Bool, true, false, not, ◌&&◌, Option, Some, None, if◌then◌else◌, refl, arith}
use Rattle.std.specs.Prelude.{All, IfSome}
use Rattle.std.specs.Option.{option_or}
use Rattle.std.specs.List.{AllByRecursion}
use Rattle.std.proofs.lemmas.List.{length-append, length-map, map-append}
use Rattle.std.proofs.lemmas.List.Elements.{All-head, All-tail}
use Rattle.std.proofs.lemmas.Option.{slice_get-get_or}
use Rattle.std.proofs.Math.ListN.{get_or-append}
use Rattle.std.proofs.Math.Seq.{get_or-append_seam}
use Rattle.sig_event.specs.declared.news.News.{News}
use Rattle.sig_terms.specs.declared.fact.Fact.{Fact}
use Rattle.sig_terms.specs.declared.fact.Fact.TheVariants.{Created, Configured, StatusSet, Listed, Unlisted, Deleted, Published, Settled, Asked}
use Rattle.sig_history.specs.Streams.{Made, Publication, Stream, is_before, is_named}
use Rattle.sig_history.specs.Facts.{is_told, published_by, stream_after, time_of}
use Rattle.sig_history.specs.Owed.{Sum, stream_named}
use Rattle.sig_history.specs.Refused.{publisher_of}
use Rattle.sig_history.specs.Spent.{ArePassed}
use Rattle.sig_history.specs.Whole.{IsRising, IsWhole}
use Rattle.sig_history.proofs.RefusedLemmas.{none_anew, none_yet, published_now, publisher_behind}
use Rattle.sig_history.proofs.SpentLemmas.{all_append}
use Rattle.sig_history.proofs.StreamLemmas.{after_same}
use Rattle.sig_accounts.specs.declared.debt.Debt.{Debt}
use Rattle.sig_accounts.specs.declared.debt.Said.{Said}
use Rattle.sig_accounts.specs.declared.debt.Said.TheVariants as said
use Rattle.sig_accounts.specs.declared.kept_refusal.KeptRefusal.{KeptRefusal}
use Rattle.sig_accounts.specs.Owings.{ArePlaced, IsPlaced, Owing, debt_off, left_by, made_of, next_debt, opened, owing_after, put_owing}
use Rattle.sig_accounts.specs.Reported.{ArePublishedAs, IsKnownPlace, IsPublishedAs, IsSaidBy, id_at, id_in, id_of, place_said, refused_at}
use Rattle.sig_accounts.proofs.StandingLemmas.{placed_owing, without_owing}

-- ---- lists

pub all_filtered : {X : Type 0} (P : X → Type 0) (keeps : X → Bool) (xs : List X) → AllByRecursion P xs → AllByRecursion P (filter keeps xs)
all_filtered P keeps [] all = tt
all_filtered P keeps (x ∷ xs) all =
    elim (keeps x) as (λ b. AllByRecursion P (if b then x ∷ filter keeps xs else filter keeps xs)) [
      | true ↦ (all.0, all_filtered P keeps xs all.1)
      | false ↦ all_filtered P keeps xs all.1
    ]

pub all_dropped : {X : Type 0} (P : X → Type 0) (n : ℕ) (xs : List X) → AllByRecursion P xs → AllByRecursion P (drop n xs)
all_dropped P zero xs all = all
all_dropped P (suc n) [] all = tt
all_dropped P (suc n) (x ∷ xs) all = all_dropped P n xs all.1

or_none : {X : Type 0} (o : Option X) → option_or o None ≡ o
or_none None = refl
or_none (Some x) = refl

-- ---- names of publications

id_kept : (published more : List Publication) (place : ℕ) → place < length published → id_at (published ++ more) place ≡ id_at published place
id_kept published more place within =
    let ids : List (List ℕ) = map id_of published in
    let long : length ids ≡ length published = length-map published id_of in
    let longer : length (map id_of (published ++ more)) ≡ length (published ++ more) = length-map (published ++ more) id_of in
    let both : length (published ++ more) ≡ length published + length more = length-append published more in
    slice_get-get_or (map id_of (published ++ more)) place [] (omega arith)
    ∙ ap (λ l. Some (get_or l place [])) (map-append id_of published more)
    ∙ ap (λ x. Some x) (get_or-append ids (map id_of more) [] place (omega arith))
    ∙ sym (slice_get-get_or ids place [] (omega arith))

id_last : (published : List Publication) (p : Publication) → id_at (published ++ p ∷ []) (length published) ≡ Some p.id
id_last published p =
    let ids : List (List ℕ) = map id_of published in
    let longer : length (map id_of (published ++ p ∷ [])) ≡ length (published ++ p ∷ []) = length-map (published ++ p ∷ []) id_of in
    let both : length (published ++ p ∷ []) ≡ length published + 1 = length-append published (p ∷ []) in
    slice_get-get_or (map id_of (published ++ p ∷ [])) (length published) [] (omega arith)
    ∙ ap (λ l. Some (get_or l (length published) [])) (map-append id_of published (p ∷ []))
    ∙ ap (λ n. Some (get_or (ids ++ p.id ∷ []) n [])) (sym (length-map published id_of))
    ∙ ap (λ x. Some x) (get_or-append_seam ids p.id [] [])

said_kept : (published more : List Publication) (w : Said) → IsPlaced (length published) w
    → id_in (published ++ more) (place_said w) ≡ id_in published (place_said w)
said_kept published more (said.Published place) placed = id_kept published more place placed
said_kept published more (said.Verified state) placed = refl
said_kept published more (said.Updated status reason) placed = refl

-- ---- one stream

-- it stands under its name, and what it owes has numbers that it has made
pub record IsKnownOwing (sum : Sum) (o : Owing) : Type 0 where
  pub here : stream_named o.stream.conf.stream sum.parts.streams ≡ Some o.stream
  pub low : AllByRecursion (λ (d : Debt). d.number ≤ o.stream.made) o.owed

-- what a sum is of which publications are known
pub record IsKnownSum (sum : Sum) : Type 0 where
  pub whole : IsWhole sum
  pub passed : ArePassed sum.parts

old_named : (sum : Sum) (f : Fact) (s : Stream) (ds : List Debt) → IsKnownSum sum → stream_named s.conf.stream sum.parts.streams ≡ Some s
    → AllByRecursion (λ (d : Debt). d.number ≤ s.made) ds → All (λ (d : Debt). IsPlaced (length sum.parts.published) d.said) ds
    → AllByRecursion (IsPublishedAs sum.parts.published s.conf.stream) ds
    → AllByRecursion (IsPublishedAs (sum.parts.published ++ published_by sum.parts f) s.conf.stream) ds
old_named sum f s [] known here low placed old = tt
old_named sum f s (d ∷ ds) known here low placed old =
    let published : List Publication = sum.parts.published in
    let more : List Publication = published_by sum.parts f in (
      publisher_behind s.conf.stream d.number published more
          ∙ ap (option_or (publisher_of s.conf.stream d.number published)) (none_anew sum f s d.number known.whole here low.0)
          ∙ or_none (publisher_of s.conf.stream d.number published)
          ∙ old.0
          ∙ sym (said_kept published more d.said (All-head (λ (e : Debt). IsPlaced (length published) e.said) d ds placed)),
      old_named sum f s ds known here low.1 (All-tail (λ (e : Debt). IsPlaced (length published) e.said) d ds placed) old.1,
    )

abbrev TellsNamed : Sum → Fact → Said → Stream → Type 0
TellsNamed sum f w s =
    publisher_of s.conf.stream (s.made + 1) (sum.parts.published ++ published_by sum.parts f) ≡ id_in (sum.parts.published ++ published_by sum.parts f) (place_said w)

-- nothing is published, and the token is of no publication
none_named : (sum : Sum) (w : Said) (s : Stream) → IsKnownSum sum → stream_named s.conf.stream sum.parts.streams ≡ Some s → place_said w ≡ None
    → publisher_of s.conf.stream (s.made + 1) (sum.parts.published ++ []) ≡ id_in (sum.parts.published ++ []) (place_said w)
none_named sum w s known here none =
    publisher_behind s.conf.stream (s.made + 1) sum.parts.published []
    ∙ or_none (publisher_of s.conf.stream (s.made + 1) sum.parts.published)
    ∙ none_yet sum.parts s (s.made + 1) here (omega arith) known.passed
    ∙ sym (ap (id_in (sum.parts.published ++ [])) none)

new_named : (sum : Sum) (f : Fact) (w : Said) (s : Stream) → IsKnownSum sum → stream_named s.conf.stream sum.parts.streams ≡ Some s
    → IsSaidBy sum.parts.published f w → is_told f s ≡ true → TellsNamed sum f w s
new_named sum (Created conf time) w s known here by told = cc told
new_named sum (Configured stream requested delivery description) w s known here by told = cc told
new_named sum (StatusSet stream status reason operator time) w s known here by told = none_named sum w s known here by
new_named sum (Listed stream subject) w s known here by told = cc told
new_named sum (Unlisted stream subject) w s known here by told = cc told
new_named sum (Deleted stream) w s known here by told = cc told
new_named sum (Published id n time) w s known here by told =
    let published : List Publication = sum.parts.published in
    let more : List Publication = published_by sum.parts (Published id n time) in
    publisher_behind s.conf.stream (s.made + 1) published more
    ∙ ap (λ o. option_or o (publisher_of s.conf.stream (s.made + 1) more)) (none_yet sum.parts s (s.made + 1) here (omega arith) known.passed)
    ∙ published_now sum.parts id n time s here (ap (λ b. if b then Some n else None) told)
    ∙ sym (ap (id_in (published ++ more)) by ∙ id_last published _)
new_named sum (Settled stream items) w s known here by told = cc told
new_named sum (Asked stream state time) w s known here by told = none_named sum w s known here by

told_named : (sum : Sum) (f : Fact) (w : Said) (s : Stream) (b : Bool) → (b ≡ true → TellsNamed sum f w s)
    → AllByRecursion (IsPublishedAs (sum.parts.published ++ published_by sum.parts f) s.conf.stream) (if b then next_debt (time_of f) w s ∷ [] else [])
told_named sum f w s true tells = (tells refl, tt)
told_named sum f w s false tells = tt

after_named : (sum : Sum) (f : Fact) (w : Said) (o : Owing) → IsKnownSum sum → IsKnownOwing sum o → IsSaidBy sum.parts.published f w
    → ArePlaced (length sum.parts.published) o → ArePublishedAs sum.parts.published o
    → ArePublishedAs (sum.parts.published ++ published_by sum.parts f) (owing_after f w o)
after_named sum f w o known is by placed old =
    let s : Stream = o.stream in
    let all : List Publication = sum.parts.published ++ published_by sum.parts f in
    subst (λ name. AllByRecursion (IsPublishedAs all name) (owing_after f w o).owed) (sym (after_same f s).name)
    (all_append (IsPublishedAs all s.conf.stream) (left_by f s o.owed) (if is_told f s then next_debt (time_of f) w s ∷ [] else [])
    (all_filtered (IsPublishedAs all s.conf.stream) (λ (d : Debt). not (debt_off f s.conf.stream d)) o.owed (old_named sum f s o.owed known is.here is.low placed old))
    (told_named sum f w s (is_told f s) (λ told. new_named sum f w s known is.here by told)))

-- ---- all streams

pub all_named_after : (sum : Sum) (f : Fact) (w : Said) (os : List Owing) → IsKnownSum sum → AllByRecursion (IsKnownOwing sum) os
    → IsSaidBy sum.parts.published f w → All (ArePlaced (length sum.parts.published)) os → AllByRecursion (ArePublishedAs sum.parts.published) os
    → AllByRecursion (ArePublishedAs (sum.parts.published ++ published_by sum.parts f)) (map (owing_after f w) os)
all_named_after sum f w [] known each by placed old = tt
all_named_after sum f w (o ∷ os) known each by placed old = (
  after_named sum f w o known each.0 by (All-head (ArePlaced (length sum.parts.published)) o os placed) old.0,
  all_named_after sum f w os known each.1 by (All-tail (ArePlaced (length sum.parts.published)) o os placed) old.1,
)

put_named : (published : List Publication) (o : Owing) (os : List Owing) → ArePublishedAs published o → AllByRecursion (ArePublishedAs published) os
    → AllByRecursion (ArePublishedAs published) (put_owing o os)
put_named published o [] new old = (new, tt)
put_named published o (q ∷ qs) new old =
    elim (is_before q.stream o.stream) as (λ b. AllByRecursion (ArePublishedAs published) (if b then q ∷ put_owing o qs else o ∷ q ∷ qs)) [
      | true ↦ (old.0, put_named published o qs new old.1)
      | false ↦ (new, old)
    ]

pub brought_named : (published : List Publication) (brought : Option Stream) (os : List Owing) → AllByRecursion (ArePublishedAs published) os
    → AllByRecursion (ArePublishedAs published) (placed_owing brought os)
brought_named published None os old = old
brought_named published (Some s) os old = put_named published (opened s) os tt old

pub without_named : (published : List Publication) (removed : Option (List ℕ)) (os : List Owing) → AllByRecursion (ArePublishedAs published) os
    → AllByRecursion (ArePublishedAs published) (without_owing removed os)
without_named published None os old = old
without_named published (Some name) os old = all_filtered (ArePublishedAs published) (λ (o : Owing). not (is_named name o.stream)) os old

-- ---- numbers that were made

pub debts_low : (sid : List ℕ) (published : List Publication) (s : Stream) (below : ℕ) (ds : List Debt)
    → IsRising below (map (made_of sid published s) ds) s.made → AllByRecursion (λ (d : Debt). d.number ≤ s.made) ds
debts_low sid published s below [] rising = tt
debts_low sid published s below (d ∷ ds) rising = (ends d.number (map (made_of sid published s) ds) rising.1, debts_low sid published s d.number ds rising.1)
  where
    ends : (low : ℕ) (us : List Made) → IsRising low us s.made → low ≤ s.made
    ends low [] rises = rises
    ends low (u ∷ us) rises =
        let more : u.number ≤ s.made = ends u.number us rises.1 in
        let less : low < u.number = rises.0 in omega arith

-- ---- places that are known

pub further_known : (places more : ℕ) (k : KeptRefusal) → places ≤ more → IsKnownPlace places k → IsKnownPlace more k
further_known places more k le known = by k.place known
  where
    by : (o : Option ℕ) → IfSome o (λ place. place < places) → IfSome o (λ place. place < more)
    by None known = tt
    by (Some place) known = omega arith

-- what it comes to keeps its name
pub refused_kept : (published more : List Publication) (k : KeptRefusal) → IsKnownPlace (length published) k
    → refused_at (published ++ more) k ≡ refused_at published k
refused_kept published more k known =
    ap (λ (id : Option (List ℕ)). record { stream = k.stream; number = k.number; id = id; code = k.code; time = k.time }) (by k.place known)
  where
    by : (o : Option ℕ) → IfSome o (λ place. place < length published) → id_in (published ++ more) o ≡ id_in published o
    by None known = refl
    by (Some place) known = id_kept published more place known
