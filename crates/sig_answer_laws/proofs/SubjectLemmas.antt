-- Which subjects a stream has after one was added or removed.
use Rattle.std.proofs.Common.{◌≡◌, ◌∙◌, ap, sym, subst, ℕ, List, [], ◌∷◌, Bool, true, false, Some, None, if◌then◌else◌, refl, inl, inr}
use Rattle.std.specs.Prelude.{Contains}
use Rattle.std.specs.List.{list_any, list_all}
use Rattle.std.proofs.lemmas.Bool.{and_parts, both_ways}
use Rattle.std.proofs.lemmas.List.Elements.{Contains-push}
use Rattle.std.proofs.lemmas.Map.Views.{Contains-from_any, list_any-from_Contains}
use Rattle.sig_subject.specs.Matching.{agrees, is_identical, part_named}
use Rattle.sig_subject.specs.Written.{IsProperSubject}
use Rattle.sig_subject.specs.declared.member.Member.{Member}
use Rattle.sig_subject.specs.declared.subject.Subject.{Subject}
use Rattle.sig_subject.specs.declared.subject.Subject.TheVariants as subject
use Rattle.sig_subject.proofs.Covering.{agrees_found, covers_itself}
use Rattle.sig_subject.proofs.Identity.{decides_identity, identity_equiv}
use Rattle.sig_terms.specs.declared.fact.Fact.TheVariants.{Listed, Unlisted}
use Rattle.sig_terms.specs.declared.want.Defaults.{Defaults}
use Rattle.sig_terms.specs.declared.want.Defaults.TheVariants as defaults
use Rattle.sig_history.specs.Owed.{Sum, stream_named}
use Rattle.sig_history.specs.Streams.{Stream}
use Rattle.sig_history.proofs.ChangeLemmas.{listing_puts, unlisting_takes}
use Rattle.sig_calls.specs.Subjects.{added_change, is_listed, removed_change}
use Rattle.sig_fact_laws.specs.Due.{Has, Matches}
use Rattle.sig_fact_laws.proofs.MemberLemmas.{none_there, there_cases}
use Rattle.sig_answer_laws.specs.Given.{HasByAnother}
use Rattle.sig_answer_laws.specs.Tokens.{after}

-- ---- lists

same_subject : (a b : Subject) → is_identical a b ≡ true → a ≡ b
same_subject a b h = (decides_identity a b).0 h

is_there : (a : Subject) (listed : List Subject) → list_any (is_identical a) listed ≡ true → Contains listed a
is_there a listed h = Contains-from_any same_subject a listed h

isnt_there : (a : Subject) (listed : List Subject) → list_any (is_identical a) listed ≡ false → Contains listed a → ⊥
isnt_there a listed h there = both_ways (list_any (is_identical a) listed) h (list_any-from_Contains identity_equiv a listed there)

at_each : (p : Member → Bool) (xs : List Member) (m : Member) → list_all p xs ≡ true → Contains xs m → p m ≡ true
at_each p [] m h there = absurd (none_there m there)
at_each p (x ∷ xs) m h there =
    let both = and_parts (p x) (list_all p xs) h in
    elim (there_cases x m xs there) [
      | inl same ↦ ap p (sym same) ∙ both.0
      | inr later ↦ at_each p xs m both.1 later
    ]

-- a proper subject matches itself
pub matches_itself : (a : Subject) → IsProperSubject a → Matches a a
matches_itself (subject.Simple a) proper = refl
matches_itself (subject.Complex xs) proper = λ m other there is.
    let found : part_named m.name xs ≡ Some m.simple =
    agrees_found m.simple (part_named m.name xs)
    (at_each (λ (k : Member). agrees false k.simple (part_named k.name xs)) xs m (covers_itself (subject.Complex xs) proper) there) in
    cc (sym found ∙ is)

-- ---- the stream of a name, by which a list is tested

-- it stands, and this holds of it
abbrev pub StandsWith : (Stream → Type 0) → Sum → List ℕ → Type 0
StandsWith P sum stream = (s : Stream) × (stream_named stream sum.parts.streams ≡ Some s) × P s

-- after it was listed, unless it was before, and all else is as it was
listed_then : (sum : Sum) (stream : List ℕ) (a : Subject) (d : Defaults) (s : Stream) → stream_named stream sum.parts.streams ≡ Some s → s.conf.defaults ≡ d
    → (b : Bool) → is_listed a s ≡ b
    → StandsWith (λ t. (t.conf.defaults ≡ d) × Contains t.listed a) (after sum (if b then None else Some (Listed stream a))) stream
listed_then sum stream a d s is given true listed = (s, is, (given, is_there a s.listed listed))
listed_then sum stream a d s is given false listed =
    let (t, found, (kept, put)) = listing_puts stream a sum s is in (
      t,
      found,
      (
        ap (λ c. c.defaults) kept.conf ∙ given,
        elim put [
          | inl was ↦ subst (λ l. Contains l a) (sym was.1) was.0
          | inr new ↦ subst (λ l. Contains l a) (sym new.1) (Contains-push s.listed a)
        ],
      ),
    )

unlisted_then : (sum : Sum) (stream : List ℕ) (a : Subject) (d : Defaults) (s : Stream) → stream_named stream sum.parts.streams ≡ Some s → s.conf.defaults ≡ d
    → (b : Bool) → is_listed a s ≡ b
    → StandsWith (λ t. (t.conf.defaults ≡ d) × (Contains t.listed a → ⊥)) (after sum (if b then Some (Unlisted stream a) else None)) stream
unlisted_then sum stream a d s is given true listed =
    let (t, found, (kept, gone, others)) = unlisting_takes stream a sum s is in
    (t, found, (ap (λ c. c.defaults) kept.conf ∙ given, gone))
unlisted_then sum stream a d s is given false listed = (s, is, (given, isnt_there a s.listed listed))

-- ---- added, and removed

pub added_has : (sum : Sum) (stream : List ℕ) (a : Subject) (d : Defaults) (s : Stream) → IsProperSubject a → stream_named stream sum.parts.streams ≡ Some s
    → s.conf.defaults ≡ d → StandsWith (λ t. Has t.conf.defaults t.listed a) (after sum (added_change d stream a s)) stream
added_has sum stream a defaults.All s proper is given =
    let (t, found, (all, gone)) = unlisted_then sum stream a defaults.All s is given (is_listed a s) refl in
    (t, found, subst (λ d. Has d t.listed a) (sym all) gone)
added_has sum stream a defaults.None s proper is given =
    let (t, found, (none, there)) = listed_then sum stream a defaults.None s is given (is_listed a s) refl in
    (t, found, subst (λ d. Has d t.listed a) (sym none) (a, there, matches_itself a proper))

-- where a stream has a removed subject still, another matches it
abbrev pub HasAnother : Subject → Stream → Type 0
HasAnother a t = Has t.conf.defaults t.listed a → HasByAnother t.conf.defaults t.listed a

pub removed_hasnt : (sum : Sum) (stream : List ℕ) (a : Subject) (d : Defaults) (s : Stream) → stream_named stream sum.parts.streams ≡ Some s
    → s.conf.defaults ≡ d → StandsWith (HasAnother a) (after sum (removed_change d stream a s)) stream
removed_hasnt sum stream a defaults.All s is given =
    let (t, found, (all, there)) = listed_then sum stream a defaults.All s is given (is_listed a s) refl in
    (t, found, subst (λ d. Has d t.listed a → HasByAnother d t.listed a) (sym all) (λ none. none there))
removed_hasnt sum stream a defaults.None s is given =
    let (t, found, (none, gone)) = unlisted_then sum stream a defaults.None s is given (is_listed a s) refl in
    let but : Has defaults.None t.listed a → HasByAnother defaults.None t.listed a =
    λ has. let (one, there, matches) = has in (one, there, matches, λ same. gone (subst (Contains t.listed) same there)) in
    (t, found, subst (λ d. Has d t.listed a → HasByAnother d t.listed a) (sym none) but)
