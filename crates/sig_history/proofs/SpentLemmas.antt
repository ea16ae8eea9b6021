-- Tokens that were made are passed: no stream makes one of the same name and number once more.
use Rattle.std.proofs.Common.{◌≡◌, ◌∙◌, ap, sym, subst, ◌⊎◌, inl, inr, ℕ, ◌+◌, ◌<◌, ◌≤◌, ◌==◌, List, [], ◌∷◌, ◌++◌, map, flat_map, Bool, true, false, not, ◌&&◌, bytes_eq, decimal, Option, Some, None, if◌then◌else◌, refl, arith}
use Rattle.std.specs.Prelude.{option_map}
use Rattle.std.specs.List.{AllByRecursion, list_any}
use Rattle.std.proofs.lemmas.Bool.{false_from_ne_true, ltb-false, or_parts}
use Rattle.std.proofs.lemmas.Fmt.{decimal_injective}
use Rattle.std.proofs.lemmas.List.{append_cancel_left}
use Rattle.sig_json.specs.declared.limits.TheConstants.{LAST_NUMBER}
use Rattle.sig_event.specs.declared.news.News.{News}
use Rattle.sig_terms.specs.declared.fact.Fact.{Fact}
use Rattle.sig_terms.specs.declared.fact.Fact.TheVariants.{Created, Configured, StatusSet, Listed, Unlisted, Deleted, Published, Settled, Asked}
use Rattle.sig_terms.specs.declared.token.Issued.{Issued}
use Rattle.sig_history.specs.Streams.{Count, Made, Parts, Publication, Stream, client_in, created_by, hyphen, is_before, is_named, issued_of, next_token, put_in_order, stands, stream_name}
use Rattle.sig_history.specs.Facts.{brought_by, changed_by, counted, made_by, parts_after, placed, published_by, removed_by, stream_after, tells, time_of, token_by, token_for, told_one, without}
use Rattle.sig_history.specs.Owed.{Sum, stream_named}
use Rattle.sig_history.specs.Sound.{Fits, is_past}
use Rattle.sig_history.specs.Spent.{ArePassed, IsCounted, IsPassed, IsPassedEach}
use Rattle.sig_history.specs.Whole.{AreWhole, IsWhole, IsWholeStream}
use Rattle.sig_history.proofs.ChangeLemmas.{named_after, named_is}
use Rattle.sig_history.proofs.StepLemmas.{AreDistinct}
use Rattle.sig_history.proofs.StreamLemmas.{changed_made, counted_grow, other_text, same_text, text_itself}
use Rattle.sig_history.proofs.WholeLemmas.{BringsNext, IsNextStream, few_past, fits_brings, whole_distinct}

-- ---- what holds of each

pub all_both : {X : Type 0} (P Q R : X → Type 0) → ((x : X) → P x → Q x → R x) → (xs : List X) → AllByRecursion P xs → AllByRecursion Q xs → AllByRecursion R xs
all_both P Q R both [] ps qs = tt
all_both P Q R both (x ∷ xs) ps qs = (both x ps.0 qs.0, all_both P Q R both xs ps.1 qs.1)

pub all_weaker : {X : Type 0} (P Q : X → Type 0) → ((x : X) → P x → Q x) → (xs : List X) → AllByRecursion P xs → AllByRecursion Q xs
all_weaker P Q implies [] ps = tt
all_weaker P Q implies (x ∷ xs) ps = (implies x ps.0, all_weaker P Q implies xs ps.1)

-- ---- names that counts have reached

pub record IsUncounted (created : List Count) (name : List ℕ) : Type 0 where
  pub number : ℕ
  pub is : name ≡ stream_name (client_in name) number
  pub top : number ≤ LAST_NUMBER
  pub above : created_by (client_in name) created < number

pub counted_apart : (created : List Count) (name : List ℕ) → IsCounted created name → IsUncounted created name → ⊥
counted_apart created name old new =
    let rest : hyphen ∷ decimal old.number ≡ hyphen ∷ decimal new.number =
    append_cancel_left (client_in name) (hyphen ∷ decimal old.number) (hyphen ∷ decimal new.number) (sym old.is ∙ new.is) in
    let numbers : decimal old.number ≡ decimal new.number = cc in
    let low_old : old.number ≤ LAST_NUMBER = old.top in
    let low_new : new.number ≤ LAST_NUMBER = new.top in
    let same : old.number ≡ new.number = decimal_injective old.number new.number (omega arith) (omega arith) numbers in
    let reached : old.number ≤ created_by (client_in name) created = old.reached in
    let above : created_by (client_in name) created < new.number = new.above in
    omega arith

pub next_uncounted : (created : List Count) (s : Stream) → IsNextStream created s → IsUncounted created s.conf.stream
next_uncounted created s next =
    let below : created_by s.client created < LAST_NUMBER = next.below in
    let number : s.number ≡ created_by s.client created + 1 = next.number in
    let above : created_by s.client created < s.number = omega arith in
    record {
      number = s.number;
      is = next.name ∙ ap (λ c. stream_name c s.number) (sym next.client);
      top = omega arith;
      above = subst (λ c. created_by c created < s.number) (sym next.client) above;
    }

pub whole_counted : (sid : List ℕ) (created : List Count) (s : Stream) (o : List Made) → IsWholeStream sid created s o → IsCounted created s.conf.stream
whole_counted sid created s o whole = record {
  number = s.number;
  is = whole.name ∙ ap (λ c. stream_name c s.number) (sym whole.client);
  top = whole.top;
  reached = subst (λ c. s.number ≤ created_by c created) (sym whole.client) whole.number;
}

-- ---- the stream of a name, after a fact

found_put : (name : List ℕ) (n : Stream) (ss : List Stream) (t : Stream) → stream_named name (put_in_order n ss) ≡ Some t
    → (stream_named name ss ≡ Some t) ⊎ (n ≡ t)
found_put name n [] t is = elim (is_named name n) as (λ b. (if b then Some n else None) ≡ Some t → (None ≡ Some t) ⊎ (n ≡ t)) [
  | true ↦ λ this. inr (cc)
  | false ↦ λ none. cc none
] is
found_put name n (s ∷ ss) t is =
    elim (is_before s n) as (λ b. stream_named name (if b then s ∷ put_in_order n ss else n ∷ s ∷ ss) ≡ Some t → (stream_named name (s ∷ ss) ≡ Some t) ⊎ (n ≡ t)) [
      | true ↦ λ later. elim (is_named name s) as (λ b. (if b then Some s else stream_named name (put_in_order n ss)) ≡ Some t
          → ((if b then Some s else stream_named name ss) ≡ Some t) ⊎ (n ≡ t)) [
            | true ↦ λ this. inl this
            | false ↦ λ rest. found_put name n ss t rest
          ] later
      | false ↦ λ first. elim (is_named name n) as (λ b. (if b then Some n else stream_named name (s ∷ ss)) ≡ Some t → (stream_named name (s ∷ ss) ≡ Some t) ⊎ (n ≡ t)) [
        | true ↦ λ this. inr (cc)
        | false ↦ λ rest. inl rest
      ] first
    ] is

found_placed : (name : List ℕ) (o : Option Stream) (ss : List Stream) (t : Stream) → stream_named name (placed o ss) ≡ Some t
    → (stream_named name ss ≡ Some t) ⊎ (o ≡ Some t)
found_placed name None ss t is = inl is
found_placed name (Some n) ss t is = elim (found_put name n ss t is) [
  | inl old ↦ inl old
  | inr new ↦ inr (ap (λ s. Some s) new)
]

none_left : (name : List ℕ) (ss : List Stream) → stream_named name (without (Some name) ss) ≡ None
none_left name [] = refl
none_left name (s ∷ ss) =
    elim (is_named name s) as (λ b. is_named name s ≡ b
    → stream_named name (if not b then s ∷ without (Some name) ss else without (Some name) ss) ≡ None) [
      | true ↦ λ this. none_left name ss
      | false ↦ λ other. ap (λ b. if b then Some s else stream_named name (without (Some name) ss)) other ∙ none_left name ss
    ] refl

found_without : (name : List ℕ) (o : Option (List ℕ)) (ss : List Stream) (t : Stream) → stream_named name (without o ss) ≡ Some t → stream_named name ss ≡ Some t
found_without name None ss t is = is
found_without name (Some gone) [] t is = is
found_without name (Some gone) (s ∷ ss) t is =
    let rest : List Stream = without (Some gone) ss in
    let here : Option Stream = stream_named name ss in
    elim (is_named gone s) as (λ b. is_named gone s ≡ b → stream_named name (if not b then s ∷ rest else rest) ≡ Some t → (if is_named name s then Some s else here) ≡ Some t) [
      | true ↦ λ this later. elim (is_named name s) as (λ b. is_named name s ≡ b → (if b then Some s else here) ≡ Some t) [
        | true ↦ λ named. let same : gone ≡ name = sym (same_text s.conf.stream gone this) ∙ same_text s.conf.stream name named in
            let none : None ≡ Some t = sym (none_left name ss) ∙ ap (λ g. stream_named name (without (Some g) ss)) (sym same) ∙ later in cc none
        | false ↦ λ other. found_without name (Some gone) ss t later
      ] refl
      | false ↦ λ stays both. elim (is_named name s) as (λ b. (if b then Some s else stream_named name rest) ≡ Some t → (if b then Some s else here) ≡ Some t) [
        | true ↦ λ this. this
        | false ↦ λ later. found_without name (Some gone) ss t later
      ] both
    ] refl is

-- it is the stream of that name before the fact, changed by it
abbrev pub IsChanged : Parts → Fact → List ℕ → Stream → Type 0
IsChanged p f name t = (s : Stream) × (stream_named name p.streams ≡ Some s) × (stream_after f s ≡ t)

changed_of : (p : Parts) (f : Fact) (name : List ℕ) (t : Stream) (o : Option Stream) → stream_named name p.streams ≡ o → option_map (stream_after f) o ≡ Some t
    → IsChanged p f name t
changed_of p f name t None none is = cc is
changed_of p f name t (Some s) this is = (s, this, cc)

-- or it is the one that the fact brings
pub found_after : (p : Parts) (f : Fact) (name : List ℕ) (t : Stream) → stream_named name (parts_after p f).streams ≡ Some t
    → IsChanged p f name t ⊎ (brought_by p f ≡ Some t)
found_after p f name t is =
    let changed : List Stream = map (stream_after f) p.streams in
    elim (found_placed name (brought_by p f) (without (removed_by f) changed) t is) [
      | inl old ↦ inl (changed_of p f name t (stream_named name p.streams) refl
          (sym (named_after f name p.streams) ∙ found_without name (removed_by f) changed t old))
      | inr new ↦ inr new
    ]

pub brought_uncounted : (sum : Sum) (f : Fact) (name : List ℕ) (t : Stream) → Fits sum f → stream_named name (parts_after sum.parts f).streams ≡ Some t
    → brought_by sum.parts f ≡ Some t → IsUncounted sum.parts.created name
brought_uncounted sum f name t fits is brings =
    let next : IsNextStream sum.parts.created t = subst (BringsNext sum.parts.created) brings (fits_brings sum f fits) in
    subst (IsUncounted sum.parts.created) (same_text t.conf.stream name (named_is name (parts_after sum.parts f).streams t is))
    (next_uncounted sum.parts.created t next)

-- ---- tokens that a fact makes

pub record IsMade (p : Parts) (f : Fact) (t : Made) : Type 0 where
  pub stream : Stream
  pub news : News
  pub named : stream_named stream.conf.stream p.streams ≡ Some stream
  pub counted : IsCounted p.created stream.conf.stream
  pub told : tells f stream ≡ Some news
  pub is : next_token p.store_id news (time_of f) stream ≡ t

-- a stream that stands under its name, which is counted
abbrev pub IsKnown : Parts → Stream → Type 0
IsKnown p s = (stream_named s.conf.stream p.streams ≡ Some s) × IsCounted p.created s.conf.stream

others_apart : (name : List ℕ) (ss : List Stream) → stands name ss ≡ false → AllByRecursion (λ (t : Stream). bytes_eq name t.conf.stream ≡ false) ss
others_apart name [] absent = tt
others_apart name (s ∷ ss) absent =
    let parts = or_parts (is_named name s) (stands name ss) absent in
    (other_text s.conf.stream name parts.0, others_apart name ss parts.1)

pub each_named : (ss : List Stream) → AreDistinct ss → AllByRecursion (λ (s : Stream). stream_named s.conf.stream ss ≡ Some s) ss
each_named [] distinct = tt
each_named (s ∷ ss) distinct = (
  ap (λ b. if b then Some s else stream_named s.conf.stream ss) (text_itself s.conf.stream s.conf.stream refl),
  all_both (λ (t : Stream). bytes_eq s.conf.stream t.conf.stream ≡ false) (λ (t : Stream). stream_named t.conf.stream ss ≡ Some t)
      (λ (t : Stream). stream_named t.conf.stream (s ∷ ss) ≡ Some t)
      (λ t other here. ap (λ b. if b then Some s else stream_named t.conf.stream ss) other ∙ here)
      ss (others_apart s.conf.stream ss distinct.0) (each_named ss distinct.1),
)

pub each_counted : (sid : List ℕ) (created : List Count) (ss : List Stream) (os : List (List Made)) → AreWhole sid created ss os
    → AllByRecursion (λ (s : Stream). IsCounted created s.conf.stream) ss
each_counted sid created [] os whole = tt
each_counted sid created (s ∷ ss) [] whole = absurd whole
each_counted sid created (s ∷ ss) (o ∷ os) whole = (whole_counted sid created s o whole.0, each_counted sid created ss os whole.3)

pub each_known : (sum : Sum) → IsWhole sum → AllByRecursion (IsKnown sum.parts) sum.parts.streams
each_known sum whole =
    let p : Parts = sum.parts in
    all_both (λ (s : Stream). stream_named s.conf.stream p.streams ≡ Some s) (λ (s : Stream). IsCounted p.created s.conf.stream) (IsKnown p)
    (λ s named counted. (named, counted)) p.streams
    (each_named p.streams (whole_distinct p.store_id p.created p.streams sum.owed whole))
    (each_counted p.store_id p.created p.streams sum.owed whole)

pub all_append : {X : Type 0} (P : X → Type 0) (xs ys : List X) → AllByRecursion P xs → AllByRecursion P ys → AllByRecursion P (xs ++ ys)
all_append P [] ys none rest = rest
all_append P (x ∷ xs) ys these rest = (these.0, all_append P xs ys these.1 rest)

pub each_made : (p : Parts) (f : Fact) (ss : List Stream) → AllByRecursion (IsKnown p) ss → AllByRecursion (IsMade p f) (flat_map (token_for p.store_id f) ss)
each_made p f [] known = tt
each_made p f (s ∷ ss) known =
    all_append (IsMade p f) (token_for p.store_id f s) (flat_map (token_for p.store_id f) ss) (by (tells f s) refl) (each_made p f ss known.1)
  where
    by : (o : Option News) → tells f s ≡ o → AllByRecursion (IsMade p f) (token_by p.store_id (time_of f) s o)
    by None told = tt
    by (Some n) told = (record { stream = s; news = n; named = known.0.0; counted = known.0.1; told = told; is = refl }, tt)

pub each_low : (ts : List Made) → list_any is_past ts ≡ false → AllByRecursion (λ (t : Made). t.number ≤ LAST_NUMBER) ts
each_low [] few = tt
each_low (t ∷ ts) few =
    let parts = or_parts (is_past t) (list_any is_past ts) few in
    (ltb-false LAST_NUMBER t.number parts.0, each_low ts parts.1)

pub counted_more : (b : Option Stream) (created : List Count) (name : List ℕ) → IsCounted created name → IsCounted (counted b created) name
counted_more b created name old =
    let grown : created_by (client_in name) created ≤ created_by (client_in name) (counted b created) = counted_grow b (client_in name) created in
    let reached : old.number ≤ created_by (client_in name) created = old.reached in
    record { number = old.number; is = old.is; top = old.top; reached = omega arith }

pub one_more : (f : Fact) (s : Stream) (n : News) → tells f s ≡ Some n → (stream_after f s).made ≡ s.made + 1
one_more f s n told = ap (λ o. (told_one o (changed_by f s)).made) told ∙ ap (λ m. m + 1) (changed_made f s)

pub no_less : (f : Fact) (s : Stream) → s.made ≤ (stream_after f s).made
no_less f s = by (tells f s)
  where
    by : (o : Option News) → s.made ≤ (told_one o (changed_by f s)).made
    by None = let same : (changed_by f s).made ≡ s.made = changed_made f s in omega arith
    by (Some n) = let same : (changed_by f s).made ≡ s.made = changed_made f s in omega arith

-- ---- tokens of publications

-- a token that was passed stays so
pub passed_later : (sum : Sum) (f : Fact) → Fits sum f → (i : Issued) → IsPassed sum.parts i → IsPassed (parts_after sum.parts f) i
passed_later sum f fits i old =
    let p : Parts = sum.parts in
    record {
      counted = counted_more (brought_by p f) p.created i.stream old.counted;
      passed = λ u named. elim (found_after p f i.stream u named) [
        | inl before ↦ let (s, was, is) = before in
            let most : i.number ≤ s.made = old.passed s was in
            let grown : s.made ≤ u.made = subst (λ (w : Stream). s.made ≤ w.made) is (no_less f s) in
            omega arith
        | inr new ↦ absurd (counted_apart p.created i.stream old.counted (brought_uncounted sum f i.stream u fits named new))
      ];
    }

-- a token that a fact makes is passed after it
pub made_passed : (sum : Sum) (f : Fact) (t : Made) → Fits sum f → IsMade sum.parts f t → IsPassed (parts_after sum.parts f) (issued_of t)
made_passed sum f t fits made =
    let p : Parts = sum.parts in
    let s : Stream = made.stream in
    subst (λ (u : Made). IsPassed (parts_after p f) (issued_of u)) made.is
    (record {
      counted = counted_more (brought_by p f) p.created s.conf.stream made.counted;
      passed = λ u named. elim (found_after p f s.conf.stream u named) [
        | inl old ↦ let (v, was, is) = old in
            let same : v ≡ s = (let both : Some v ≡ Some s = sym was ∙ made.named in cc) in
            let more : u.made ≡ s.made + 1 = ap (λ (w : Stream). w.made) (sym is) ∙ ap (λ (w : Stream). (stream_after f w).made) same ∙ one_more f s made.news made.told in
            omega arith
        | inr new ↦ absurd (counted_apart p.created s.conf.stream made.counted (brought_uncounted sum f s.conf.stream u fits named new))
      ];
    })

all_made_passed : (sum : Sum) (f : Fact) → Fits sum f → (ts : List Made) → AllByRecursion (IsMade sum.parts f) ts
    → AllByRecursion (IsPassed (parts_after sum.parts f)) (map issued_of ts)
all_made_passed sum f fits [] made = tt
all_made_passed sum f fits (t ∷ ts) made = (made_passed sum f t fits made.0, all_made_passed sum f fits ts made.1)

pub all_made : (sum : Sum) (f : Fact) → IsWhole sum → AllByRecursion (IsMade sum.parts f) (made_by sum.parts f)
all_made sum f whole = each_made sum.parts f sum.parts.streams (each_known sum whole)

new_passed : (sum : Sum) (f : Fact) → IsWhole sum → Fits sum f → AllByRecursion (IsPassedEach (parts_after sum.parts f)) (published_by sum.parts f)
new_passed sum (Created conf time) whole fits = tt
new_passed sum (Configured stream requested delivery description) whole fits = tt
new_passed sum (StatusSet stream status reason operator time) whole fits = tt
new_passed sum (Listed stream subject) whole fits = tt
new_passed sum (Unlisted stream subject) whole fits = tt
new_passed sum (Deleted stream) whole fits = tt
new_passed sum (Published id news time) whole fits =
    (all_made_passed sum (Published id news time) fits (made_by sum.parts (Published id news time)) (all_made sum (Published id news time) whole), tt)
new_passed sum (Settled stream items) whole fits = tt
new_passed sum (Asked stream state time) whole fits = tt

pub passed_after : (sum : Sum) (f : Fact) → IsWhole sum → Fits sum f → ArePassed sum.parts → ArePassed (parts_after sum.parts f)
passed_after sum f whole fits old =
    let after : Parts = parts_after sum.parts f in
    all_append (IsPassedEach after) sum.parts.published (published_by sum.parts f)
    (all_weaker (IsPassedEach sum.parts) (IsPassedEach after)
    (λ publication each. all_weaker (IsPassed sum.parts) (IsPassed after) (λ i passed. passed_later sum f fits i passed) publication.issued each)
    sum.parts.published old)
    (new_passed sum f whole fits)
