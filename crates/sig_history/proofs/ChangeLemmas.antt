-- What a fact makes of the stream that it names, and that it leaves every other as it was.
use Rattle.std.proofs.Common.{◌≡◌, ◌∙◌, ap, sym, subst, ◌⊎◌, inl, inr, ℕ, List, [], ◌∷◌, ◌++◌, map, filter, Bool, true, false, not, ◌&&◌, ◌||◌, Option, Some, None, bytes_eq, if◌then◌else◌, refl}
use Rattle.std.specs.Prelude.{Contains, option_map}
use Rattle.std.specs.List.{list_any}
use Rattle.std.specs.Option.{option_map_or}
use Rattle.std.proofs.lemmas.Bool.{and_parts, both_ways, false_from_ne_true, or_cases, or_right}
use Rattle.std.proofs.lemmas.Map.Views.{Contains-from_any, list_any-from_Contains}
use Rattle.std.proofs.lemmas.List.Folds.{list_any-append}
use Rattle.sig_subject.specs.Matching.{agrees, all_agree, is_identical, is_matching, part_named}
use Rattle.sig_subject.specs.Written.{IsProperSubject}
use Rattle.sig_subject.specs.declared.member.Member.{Member}
use Rattle.sig_subject.specs.declared.simple.Simple.{Simple}
use Rattle.sig_subject.specs.declared.subject.Subject.{Subject}
use Rattle.sig_subject.specs.declared.subject.Subject.TheVariants as subject
use Rattle.sig_subject.proofs.Covering.{covers_itself}
use Rattle.sig_subject.proofs.Identity.{decides_identity, identity_equiv}
use Rattle.sig_event.specs.Events.{uri_of}
use Rattle.sig_event.specs.declared.news.News.{News}
use Rattle.sig_event.specs.declared.status.Status.{Status}
use Rattle.sig_terms.specs.Fitting.{delivers, fits}
use Rattle.sig_terms.specs.declared.configuration.StreamConf.{StreamConf}
use Rattle.sig_terms.specs.declared.fact.Fact.{Fact}
use Rattle.sig_terms.specs.declared.fact.Fact.TheVariants.{Configured, StatusSet, Listed, Unlisted}
use Rattle.sig_terms.specs.declared.want.Defaults.{Defaults}
use Rattle.sig_terms.specs.declared.want.Defaults.TheVariants as defaults
use Rattle.sig_terms.specs.declared.want.Delivery.{Delivery}
use Rattle.sig_history.specs.Changes.{ConfiguringSetsWhatItSays, HasOtherList, HasStatus, IsConfigured, IsDueOn, IsListedOn, IsNotDueOn, IsOffList, ListingDecidesWhatIsDue, ListingPutsOn, Makes, MayGet, StatusDecidesWhatIsOffered, StatusIsSet, UnlistingTakesOff}
use Rattle.sig_history.specs.Facts.{configured, stream_after, told_one, updated_news}
use Rattle.sig_history.specs.Owed.{offers, owed_by, stream_named}
use Rattle.sig_history.specs.Streams.{Made, Stream, is_due, is_enabled, is_named, is_notice, list_added, list_removed, with_conf, with_listed, with_status}
use Rattle.sig_history.proofs.StepLemmas.{filter_all}
use Rattle.sig_history.proofs.StreamLemmas.{after_same}

-- ---- the stream of a name after a fact

pub named_is : (name : List ℕ) (ss : List Stream) (s : Stream) → stream_named name ss ≡ Some s → is_named name s ≡ true
named_is name [] s is = cc is
named_is name (t ∷ ts) s is =
    elim (is_named name t) as (λ b. is_named name t ≡ b → (if b then Some t else stream_named name ts) ≡ Some s → is_named name s ≡ true) [
      | true ↦ λ this same. let one : t ≡ s = cc in subst (λ u. is_named name u ≡ true) one this
      | false ↦ λ other later. named_is name ts s later
    ] refl is

pub named_after : (f : Fact) (name : List ℕ) (ss : List Stream)
    → stream_named name (map (stream_after f) ss) ≡ option_map (stream_after f) (stream_named name ss)
named_after f name [] = refl
named_after f name (s ∷ ss) =
    ap (λ n. if bytes_eq n name then Some (stream_after f s) else stream_named name (map (stream_after f) ss)) (after_same f s).name
    ∙ elim (is_named name s) as (λ b. (if b then Some (stream_after f s) else stream_named name (map (stream_after f) ss))
    ≡ option_map (stream_after f) (if b then Some s else stream_named name ss)) [
      | true ↦ refl
      | false ↦ named_after f name ss
    ]

made_of : (f : Fact) (name : List ℕ) (P : Stream → Stream → Type 0) (ss : List Stream) (s : Stream) → stream_named name ss ≡ Some s
    → (is_named name s ≡ true → P s (stream_after f s))
    → (t : Stream) × (stream_named name (map (stream_after f) ss) ≡ Some t) × P s t
made_of f name P ss s is holds =
    (stream_after f s, named_after f name ss ∙ ap (option_map (stream_after f)) is, holds (named_is name ss s is))

-- ---- configurations and statuses

pub configuring_sets : ConfiguringSetsWhatItSays
configuring_sets stream requested delivery description sum s is =
    let f : Fact = Configured stream requested delivery description in
    let P : Stream → Stream → Type 0 = IsConfigured requested delivery description in
    made_of f stream P sum.parts.streams s is
    (λ named. subst (λ b. P s (if b then with_conf (configured requested delivery description s.conf) s else s)) (sym named) (record {
      requested = refl;
      delivery = refl;
      description = refl;
      client = refl;
      number = refl;
      stream = refl;
      iss = refl;
      aud = refl;
      interval = refl;
      defaults = refl;
      status = refl;
      reason = refl;
      listed = refl;
      asked = refl;
      made = refl;
    }))

-- what it makes of the configuration
pub configuring_conf : (stream : List ℕ) (requested : Option (List (List ℕ))) (delivery : Delivery) (description : Option (List ℕ)) →
    Makes (Configured stream requested delivery description) stream (λ s t. t.conf ≡ configured requested delivery description s.conf)
configuring_conf stream requested delivery description sum s is =
    let new : StreamConf = configured requested delivery description s.conf in
    made_of (Configured stream requested delivery description) stream (λ s t. t.conf ≡ configured requested delivery description s.conf) sum.parts.streams s is
    (λ named. subst (λ b. (if b then with_conf new s else s).conf ≡ new) (sym named) refl)

pub status_is_set : StatusIsSet
status_is_set stream status reason true time sum s is =
    let f : Fact = StatusSet stream status reason true time in
    made_of f stream (HasStatus status reason true) sum.parts.streams s is
    (λ named. subst (λ b. HasStatus status reason true s (told_one (if b then Some (updated_news stream status reason) else None) (if b then with_status status reason s else s)))
    (sym named)
    (record { status = refl; reason = refl; made = refl; client = refl; number = refl; conf = refl; listed = refl; asked = refl }))
status_is_set stream status reason false time sum s is =
    let f : Fact = StatusSet stream status reason false time in
    made_of f stream (HasStatus status reason false) sum.parts.streams s is
    (λ named. subst (λ b. HasStatus status reason false s (if b then with_status status reason s else s)) (sym named)
    (record { status = refl; reason = refl; made = refl; client = refl; number = refl; conf = refl; listed = refl; asked = refl }))

-- ---- lists of subjects

same_subject : (a b : Subject) → is_identical a b ≡ true → a ≡ b
same_subject a b h = (decides_identity a b).0 h

identical_itself : (a : Subject) → is_identical a a ≡ true
identical_itself a = (decides_identity a a).1 refl

-- a subject is on a list exactly where an identical one is found
there : (subject : Subject) (listed : List Subject) → list_any (is_identical subject) listed ≡ true → Contains listed subject
there subject listed h = Contains-from_any same_subject subject listed h

found_there : (subject : Subject) (listed : List Subject) → Contains listed subject → list_any (is_identical subject) listed ≡ true
found_there subject listed h = list_any-from_Contains identity_equiv subject listed h

not_there : (subject : Subject) (listed : List Subject) → list_any (is_identical subject) listed ≡ false → Contains listed subject → ⊥
not_there subject listed h contains = both_ways (list_any (is_identical subject) listed) h (found_there subject listed contains)

-- a stream of the name after it is listed or unlisted
listed_as : (subject : Subject) (s : Stream) (b : Bool) → b ≡ true → (P : Stream → Type 0) → P (with_listed (list_added subject s.listed) s)
    → P (if b then with_listed (list_added subject s.listed) s else s)
listed_as subject s b named P h = subst (λ c. P (if c then with_listed (list_added subject s.listed) s else s)) (sym named) h

unlisted_as : (subject : Subject) (s : Stream) (b : Bool) → b ≡ true → (P : Stream → Type 0) → P (with_listed (list_removed subject s.listed) s)
    → P (if b then with_listed (list_removed subject s.listed) s else s)
unlisted_as subject s b named P h = subst (λ c. P (if c then with_listed (list_removed subject s.listed) s else s)) (sym named) h

other_list : (listed : List Subject) (s : Stream) → HasOtherList s (with_listed listed s)
other_list listed s = record { client = refl; number = refl; conf = refl; status = refl; reason = refl; asked = refl; made = refl }

added_is : (subject : Subject) (listed : List Subject)
    → (Contains listed subject × (list_added subject listed ≡ listed))
    ⊎ ((Contains listed subject → ⊥) × (list_added subject listed ≡ listed ++ subject ∷ []))
added_is subject listed =
    elim (list_any (is_identical subject) listed) as (λ b. list_any (is_identical subject) listed ≡ b
    → (Contains listed subject × ((if b then listed else listed ++ subject ∷ []) ≡ listed))
    ⊎ ((Contains listed subject → ⊥) × ((if b then listed else listed ++ subject ∷ []) ≡ listed ++ subject ∷ []))) [
      | true ↦ λ h. inl (there subject listed h, refl)
      | false ↦ λ h. inr (not_there subject listed h, refl)
    ] refl

pub listing_puts : ListingPutsOn
listing_puts stream subject sum s is =
    made_of (Listed stream subject) stream (IsListedOn subject) sum.parts.streams s is
    (λ named. listed_as subject s (is_named stream s) named (IsListedOn subject s) (other_list (list_added subject s.listed) s, added_is subject s.listed))

-- what is found in a list without a subject
found_removed : (subject other : Subject) (listed : List Subject) → is_identical subject other ≡ false
    → list_any (is_identical other) (list_removed subject listed) ≡ list_any (is_identical other) listed
found_removed subject other [] differs = refl
found_removed subject other (l ∷ ls) differs =
    elim (is_identical subject l) as (λ b. is_identical subject l ≡ b
    → list_any (is_identical other) (if not b then l ∷ list_removed subject ls else list_removed subject ls) ≡ (is_identical other l || list_any (is_identical other) ls)) [
      | true ↦ λ this. found_removed subject other ls differs
          ∙ ap (λ c. c || list_any (is_identical other) ls) (sym (false_from_ne_true (is_identical other l)
          (λ same. both_ways (is_identical subject other) differs
          (subst (λ m. is_identical subject m ≡ true) (sym (same_subject other l same)) this))))
      | false ↦ λ apart. ap (λ c. is_identical other l || c) (found_removed subject other ls differs)
    ] refl

gone_removed : (subject : Subject) (listed : List Subject) → list_any (is_identical subject) (list_removed subject listed) ≡ false
gone_removed subject [] = refl
gone_removed subject (l ∷ ls) =
    elim (is_identical subject l) as (λ b. is_identical subject l ≡ b
    → list_any (is_identical subject) (if not b then l ∷ list_removed subject ls else list_removed subject ls) ≡ false) [
      | true ↦ λ this. gone_removed subject ls
      | false ↦ λ apart. ap (λ c. c || list_any (is_identical subject) (list_removed subject ls)) apart ∙ gone_removed subject ls
    ] refl

removed_is : (subject : Subject) (s : Stream) → IsOffList subject s (with_listed (list_removed subject s.listed) s)
removed_is subject s = (
  other_list (list_removed subject s.listed) s,
  not_there subject (list_removed subject s.listed) (gone_removed subject s.listed),
  λ other differs. (
    λ h. there other s.listed (sym (found_removed subject other s.listed differs) ∙ found_there other (list_removed subject s.listed) h),
    λ h. there other (list_removed subject s.listed) (found_removed subject other s.listed differs ∙ found_there other s.listed h),
  ),
)

pub unlisting_takes : UnlistingTakesOff
unlisting_takes stream subject sum s is =
    made_of (Unlisted stream subject) stream (IsOffList subject) sum.parts.streams s is
    (λ named. unlisted_as subject s (is_named stream s) named (IsOffList subject s) (removed_is subject s))

-- ---- what that makes due

-- an identical subject is found after one is added
found_added : (subject : Subject) (listed : List Subject) → list_any (is_identical subject) (list_added subject listed) ≡ true
found_added subject listed =
    elim (list_any (is_identical subject) listed) as (λ b. list_any (is_identical subject) listed ≡ b
    → list_any (is_identical subject) (if b then listed else listed ++ subject ∷ []) ≡ true) [
      | true ↦ λ h. h
      | false ↦ λ h. list_any-append (is_identical subject) listed (subject ∷ [])
          ∙ or_right (list_any (is_identical subject) listed) (is_identical subject subject || false) (ap (λ c. c || false) (identical_itself subject))
    ] refl

agrees_more : (s : Simple) (o : Option Simple) → agrees false s o ≡ true → agrees true s o ≡ true
agrees_more s None h = refl
agrees_more s (Some t) h = h

all_agree_more : (xs ys : List Member) → all_agree false xs ys ≡ true → all_agree true xs ys ≡ true
all_agree_more [] ys h = refl
all_agree_more (m ∷ ms) ys h =
    let both = and_parts (agrees false m.simple (part_named m.name ys)) (all_agree false ms ys) h in
    ap (λ b. b && all_agree true ms ys) (agrees_more m.simple (part_named m.name ys) both.0) ∙ all_agree_more ms ys both.1

-- a proper subject matches itself
matches_itself : (a : Subject) → IsProperSubject a → is_matching a a ≡ true
matches_itself (subject.Simple a) proper = covers_itself (subject.Simple a) proper
matches_itself (subject.Complex xs) proper = all_agree_more xs xs (covers_itself (subject.Complex xs) proper)

-- where an identical one is on the list, one is that it matches
matched_of : (a : Subject) (listed : List Subject) → is_matching a a ≡ true → list_any (is_identical a) listed ≡ true → list_any (is_matching a) listed ≡ true
matched_of a [] matches h = cc h
matched_of a (l ∷ ls) matches h = elim (or_cases (is_identical a l) (list_any (is_identical a) ls) h) [
  | inl this ↦ ap (λ c. c || list_any (is_matching a) ls) (subst (λ m. is_matching a m ≡ true) (same_subject a l this) matches)
  | inr later ↦ or_right (is_matching a l) (list_any (is_matching a) ls) (matched_of a ls matches later)
]

-- whether it is due is whether the subject fits, where the stream may get it
due_by : (n : News) (given : Defaults) (listed : List Subject) (s : Stream) → MayGet given n s → is_due n (with_listed listed s) ≡ fits given listed n.subject
due_by n given listed s may =
    ap (λ b. not b && delivers s.conf (uri_of n.event) && fits s.conf.defaults listed n.subject) may.on
    ∙ ap (λ b. b && fits s.conf.defaults listed n.subject) may.delivers
    ∙ ap (λ d. fits d listed n.subject) may.defaults

pub listing_decides : ListingDecidesWhatIsDue
listing_decides stream n proper = (
  λ sum s is. made_of (Listed stream n.subject) stream (IsDueOn defaults.None n) sum.parts.streams s is
      (λ named. listed_as n.subject s (is_named stream s) named (IsDueOn defaults.None n s)
      (λ may. due_by n defaults.None (list_added n.subject s.listed) s may
      ∙ matched_of n.subject (list_added n.subject s.listed) (matches_itself n.subject proper) (found_added n.subject s.listed))),
  λ sum s is. made_of (Unlisted stream n.subject) stream (IsDueOn defaults.All n) sum.parts.streams s is
      (λ named. unlisted_as n.subject s (is_named stream s) named (IsDueOn defaults.All n s)
      (λ may. due_by n defaults.All (list_removed n.subject s.listed) s may ∙ ap (λ b. not b) (gone_removed n.subject s.listed))),
  λ sum s is. made_of (Listed stream n.subject) stream (IsNotDueOn defaults.All n) sum.parts.streams s is
      (λ named. listed_as n.subject s (is_named stream s) named (IsNotDueOn defaults.All n s)
      (λ may. due_by n defaults.All (list_added n.subject s.listed) s may ∙ ap (λ b. not b) (found_added n.subject s.listed))),
)

-- ---- what is offered

offered_of : (status : Status) (owed : List Made) → filter (offers status) owed ≡ (if is_enabled status then owed else filter is_notice owed)
offered_of status owed =
    elim (is_enabled status) as (λ b. filter (λ t. b || is_notice t) owed ≡ (if b then owed else filter is_notice owed)) [
      | true ↦ filter_all (λ (t : Made). true) (λ t. refl) owed
      | false ↦ refl
    ]

pub status_decides : StatusDecidesWhatIsOffered
status_decides sum name s is =
    ap (λ o. option_map_or (λ (t : Stream). filter (offers t.status) (owed_by sum name)) o []) is ∙ offered_of s.status (owed_by sum name)
