-- The tokens that are kept as reported were owed when they were settled with a code.
use Rattle.std.proofs.Common.{◌≡◌, ◌∙◌, ap, sym, subst, ℕ, ◌-◌, List, [], ◌∷◌, ◌++◌, length, Bool, true, false, ◌==◌, Option, Some, None, if◌then◌else◌, refl, append_assoc}
use Rattle.std.specs.Prelude.{All, Contains, cond}
use Rattle.std.specs.List.{find}
use Rattle.std.proofs.lemmas.Bool.{and_parts, eqb-true}
use Rattle.std.proofs.lemmas.List.Elements.{All-append, All-cons, All-contains, All-drop, All-nil, All-weaker, Contains-append_left, Contains-append_right, Contains-push}
use Rattle.sig_terms.specs.declared.fact.Fact.{Fact}
use Rattle.sig_terms.specs.declared.fact.Fact.TheVariants.{Created, Configured, StatusSet, Listed, Unlisted, Deleted, Published, Settled, Asked}
use Rattle.sig_terms.specs.declared.fact.SettledItem.{SettledItem}
use Rattle.sig_terms.specs.declared.refused_token.RefusedToken.{RefusedToken}
use Rattle.sig_history.specs.declared.limits.TheConstants.{REFUSED_KEPT}
use Rattle.sig_history.specs.Owed.{Sum, empty_sum, owed_by, owed_in, refused_by, refused_of, sum_after, sum_of}
use Rattle.sig_history.specs.Refused.{Refusals, has_this, kept_code, refusal_of, refused_in, with_refused}
use Rattle.sig_history.specs.Sound.{is_fitting, is_sound}
use Rattle.sig_history.specs.Streams.{Count, Made, Publication, Stream, is_named}
use Rattle.sig_history.specs.Whole.{AreWhole, IsOwnToken, IsWhole}
use Rattle.sig_history.proofs.JoinLemmas.{joined}
use Rattle.sig_history.proofs.StreamLemmas.{same_text}
use Rattle.sig_history.proofs.WholeLemmas.{whole_after}
use Rattle.sig_owing.specs.Reported.{RefusedWereReported, WasReported}

-- ---- what a stream owes is its own

owned_in : (name sid : List ℕ) (created : List Count) (ss : List Stream) (os : List (List Made)) → AreWhole sid created ss os
    → All (λ (t : Made). t.stream ≡ name) (owed_in name ss os)
owned_in name sid created [] os whole = All-nil (λ (t : Made). t.stream ≡ name)
owned_in name sid created (s ∷ ss) [] whole = All-nil (λ (t : Made). t.stream ≡ name)
owned_in name sid created (s ∷ ss) (o ∷ os) whole =
    elim (is_named name s) as (λ b. is_named name s ≡ b → All (λ (t : Made). t.stream ≡ name) (if b then o else owed_in name ss os)) [
      | true ↦ λ this. All-weaker (IsOwnToken sid s.conf.stream) (λ (t : Made). t.stream ≡ name)
          (λ t own. own.stream ∙ same_text s.conf.stream name this) o whole.0.own
      | false ↦ λ other. owned_in name sid created ss os whole.3
    ] refl

-- ---- one that is found

contains_later : {X : Type 0} (y : X) (xs : List X) (x : X) → Contains xs x → Contains (y ∷ xs) x
contains_later y xs x there = Contains-append_right (y ∷ []) xs x there

contains_first : {X : Type 0} (x : X) (xs : List X) → Contains (x ∷ xs) x
contains_first x xs = Contains-append_left (x ∷ []) xs x (Contains-push [] x)

found_there : (n : ℕ) (owed : List Made) (t : Made) → find (has_this n) owed ≡ Some t → Contains owed t × (t.number ≡ n)
found_there n [] t is = cc is
found_there n (u ∷ us) t is =
    elim (u.number == n) as (λ b. (u.number == n) ≡ b → cond b (Some u) (find (has_this n) us) ≡ Some t → Contains (u ∷ us) t × (t.number ≡ n)) [
      | true ↦ λ same this. (let one : u ≡ t = cc this in
          (subst (Contains (u ∷ us)) one (contains_first u us), subst (λ (v : Made). v.number ≡ n) one (eqb-true u.number n same)))
      | false ↦ λ other later. (let rest = found_there n us t later in (contains_later u us t rest.0, rest.1))
    ] refl is

-- ---- one settlement

abbrev after : List ℕ → List Fact → Sum
after sid done = sum_of (empty_sum sid) done

one_reported : (sid : List ℕ) (done : List Fact) (stream : List ℕ) (items : List SettledItem) (i : SettledItem)
    → All (λ (t : Made). t.stream ≡ stream) (owed_by (after sid done) stream) → Contains items i
    → (o : Option Made) (code : Option (List ℕ)) → find (has_this i.number) (owed_by (after sid done) stream) ≡ o → i.code ≡ code
    → All (WasReported sid (done ++ Settled stream items ∷ [])) (refusal_of (after sid done).parts.published o code)
one_reported sid done stream items i own among o None found is = All-nil (WasReported sid (done ++ Settled stream items ∷ []))
one_reported sid done stream items i own among None (Some code) found is = All-nil (WasReported sid (done ++ Settled stream items ∷ []))
one_reported sid done stream items i own among (Some t) (Some code) found is =
    let sum : Sum = after sid done in
    let there = found_there i.number (owed_by sum stream) t found in
    let named : t.stream ≡ stream = All-contains (λ (u : Made). u.stream ≡ stream) (owed_by sum stream) t own there.0 in
    let one : SettledItem = record { number = t.number; code = Some code } in
    let same : i ≡ one = ap (λ c. record { number = i.number; code = c }) is ∙ ap (λ n. record { number = n; code = Some code }) (sym there.1) in
    All-cons (WasReported sid (done ++ Settled stream items ∷ [])) _ [] (record {
      earlier = done;
      items = items;
      later = [];
      code = code;
      token = t;
      all = ap (λ name. done ++ Settled name items ∷ []) named;
      item = subst (Contains items) same among;
      owed = subst (λ name. Contains (owed_by sum name) t) (sym named) there.0;
      number = refl;
      time = refl;
      kept = refl;
      id = refl;
    }) (All-nil (WasReported sid (done ++ Settled stream items ∷ [])))

each_reported : (sid : List ℕ) (done : List Fact) (stream : List ℕ) (items some : List SettledItem)
    → All (λ (t : Made). t.stream ≡ stream) (owed_by (after sid done) stream) → ((i : SettledItem) → Contains some i → Contains items i)
    → All (WasReported sid (done ++ Settled stream items ∷ [])) (refused_in (after sid done).parts.published (owed_by (after sid done) stream) some)
each_reported sid done stream items [] own among = All-nil (WasReported sid (done ++ Settled stream items ∷ []))
each_reported sid done stream items (i ∷ some) own among =
    let sum : Sum = after sid done in
    All-append (WasReported sid (done ++ Settled stream items ∷ []))
    (refusal_of sum.parts.published (find (has_this i.number) (owed_by sum stream)) i.code)
    (refused_in sum.parts.published (owed_by sum stream) some)
    (one_reported sid done stream items i own (among i (contains_first i some)) (find (has_this i.number) (owed_by sum stream)) i.code refl refl)
    (each_reported sid done stream items some own (λ j there. among j (contains_later i some j there)))

-- ---- one fact

new_reported : (sid : List ℕ) (done : List Fact) (f : Fact) → IsWhole (after sid done) → All (WasReported sid (done ++ f ∷ [])) (refused_by (after sid done) f)
new_reported sid done (Created conf time) whole = All-nil (WasReported sid (done ++ Created conf time ∷ []))
new_reported sid done (Configured stream requested delivery description) whole =
    All-nil (WasReported sid (done ++ Configured stream requested delivery description ∷ []))
new_reported sid done (StatusSet stream status reason operator time) whole = All-nil (WasReported sid (done ++ StatusSet stream status reason operator time ∷ []))
new_reported sid done (Listed stream subject) whole = All-nil (WasReported sid (done ++ Listed stream subject ∷ []))
new_reported sid done (Unlisted stream subject) whole = All-nil (WasReported sid (done ++ Unlisted stream subject ∷ []))
new_reported sid done (Deleted stream) whole = All-nil (WasReported sid (done ++ Deleted stream ∷ []))
new_reported sid done (Published id news time) whole = All-nil (WasReported sid (done ++ Published id news time ∷ []))
new_reported sid done (Settled stream items) whole =
    let sum : Sum = after sid done in
    each_reported sid done stream items items (owned_in stream sum.parts.store_id sum.parts.created sum.parts.streams sum.owed whole) (λ i there. there)
new_reported sid done (Asked stream state time) whole = All-nil (WasReported sid (done ++ Asked stream state time ∷ []))

-- what was reported stays so
stays : (sid : List ℕ) (done more : List Fact) (t : RefusedToken) → WasReported sid done t → WasReported sid (done ++ more) t
stays sid done more t was = record {
  earlier = was.earlier;
  items = was.items;
  later = was.later ++ more;
  code = was.code;
  token = was.token;
  all = sym (append_assoc was.earlier (Settled t.stream was.items ∷ was.later) more) ∙ ap (λ l. l ++ more) was.all;
  item = was.item;
  owed = was.owed;
  number = was.number;
  time = was.time;
  kept = was.kept;
  id = was.id;
}

all_with : (P : RefusedToken → Type 0) (r : Refusals) (ts : List RefusedToken) → All P r.kept → All P ts → All P (with_refused r ts).kept
all_with P r [] old new = old
all_with P r (t ∷ ts) old new =
    All-drop P (length (r.kept ++ t ∷ ts) - REFUSED_KEPT) (r.kept ++ t ∷ ts) (All-append P r.kept (t ∷ ts) old new)

-- ---- all facts

from_here : (sid : List ℕ) (done facts : List Fact) → IsWhole (after sid done) → is_sound (after sid done) facts ≡ true
    → All (WasReported sid done) (after sid done).refused.kept → All (WasReported sid (done ++ facts)) (refused_of (after sid done) facts).kept
from_here sid done [] whole sound all =
    All-weaker (WasReported sid done) (WasReported sid (done ++ [])) (λ t was. stays sid done [] t was) (after sid done).refused.kept all
from_here sid done (f ∷ facts) whole sound all =
    let sum : Sum = after sid done in
    let both = and_parts (is_fitting sum f) (is_sound (sum_of sum (f ∷ [])) facts) sound in
    let next : sum_of sum (f ∷ []) ≡ after sid (done ++ f ∷ []) = sym (joined (empty_sum sid) done (f ∷ [])) in
    let kept : All (WasReported sid (done ++ f ∷ [])) (sum_of sum (f ∷ [])).refused.kept =
    all_with (WasReported sid (done ++ f ∷ [])) sum.refused (refused_by sum f)
    (All-weaker (WasReported sid done) (WasReported sid (done ++ f ∷ [])) (λ t was. stays sid done (f ∷ []) t was) sum.refused.kept all)
    (new_reported sid done f whole) in
    subst (λ (l : List Fact). All (WasReported sid l) (refused_of (sum_of sum (f ∷ [])) facts).kept) (append_assoc done (f ∷ []) facts)
    (subst (λ (s : Sum). All (WasReported sid ((done ++ f ∷ []) ++ facts)) (refused_of s facts).kept) (sym next)
    (from_here sid (done ++ f ∷ []) facts (subst IsWhole next (whole_after sum f whole both.0))
    (subst (λ (s : Sum). is_sound s facts ≡ true) next both.1)
    (subst (λ (s : Sum). All (WasReported sid (done ++ f ∷ [])) s.refused.kept) next kept)))

pub refused_reported : RefusedWereReported
refused_reported store_id facts sound = from_here store_id [] facts tt sound (All-nil (WasReported store_id []))
