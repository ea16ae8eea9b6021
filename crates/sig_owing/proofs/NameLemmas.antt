-- Names of streams are used once: each that a fact makes has a number above all that its client made before.
use Rattle.std.proofs.Common.{◌≡◌, ◌∙◌, ap, sym, subst, ℕ, ◌+◌, ◌<◌, ◌≤◌, List, [], ◌∷◌, ◌++◌, Option, Some, None, true, false, bytes_eq, decimal, refl, arith}
use Rattle.std.specs.List.{AllByRecursion, IsDistinct}
use Rattle.std.proofs.lemmas.Bool.{and_parts, false_from_ne_true}
use Rattle.std.proofs.lemmas.Fmt.{decimal_injective}
use Rattle.std.proofs.lemmas.List.{append_cancel_left}
use Rattle.sig_json.specs.declared.limits.TheConstants.{LAST_NUMBER}
use Rattle.sig_terms.specs.declared.fact.Fact.{Fact}
use Rattle.sig_terms.specs.declared.fact.Fact.TheVariants.{Created, Configured, StatusSet, Listed, Unlisted, Deleted, Published, Settled, Asked}
use Rattle.sig_history.specs.Streams.{Stream, Count, Parts, client_in, count_one, created_by, hyphen, stream_name}
use Rattle.sig_history.specs.Facts.{brought_by, counted}
use Rattle.sig_history.specs.Owed.{Sum, sum_of}
use Rattle.sig_history.specs.Sound.{is_fitting, is_sound}
use Rattle.sig_owing.specs.Laws.{NamesAreUsedOnce, name_made, names_made}
use Rattle.sig_history.proofs.StreamLemmas.{counted_grow, one_counted, same_text}
use Rattle.sig_history.proofs.WholeLemmas.{BringsNext, IsNextStream, fits_brings}

-- ---- names with numbers above a client's count

record IsAbove (created : List Count) (name : List ℕ) : Type 0 where
  number : ℕ
  above : created_by (client_in name) created < number
  top : number ≤ LAST_NUMBER
  is : name ≡ stream_name (client_in name) number

-- a client's next stream has such a name
next_above : (created : List Count) (s : Stream) → IsNextStream created s → IsAbove created s.conf.stream
next_above created s next =
    let below : created_by s.client created < LAST_NUMBER = next.below in
    let number : s.number ≡ created_by s.client created + 1 = next.number in
    let above : created_by s.client created < s.number = omega arith in
    record {
      number = s.number;
      above = subst (λ c. created_by c created < s.number) (sym next.client) above;
      top = omega arith;
      is = next.name ∙ ap (λ c. stream_name c s.number) (sym next.client);
    }

-- what is above later counts is above earlier ones
above_before : (b : Option Stream) (created : List Count) (name : List ℕ) → IsAbove (counted b created) name → IsAbove created name
above_before b created name h =
    let grown : created_by (client_in name) created ≤ created_by (client_in name) (counted b created) = counted_grow b (client_in name) created in
    let above : created_by (client_in name) (counted b created) < h.number = h.above in
    record { number = h.number; above = omega arith; top = h.top; is = h.is }

all_above_before : (b : Option Stream) (created : List Count) (names : List (List ℕ)) → AllByRecursion (IsAbove (counted b created)) names
    → AllByRecursion (IsAbove created) names
all_above_before b created [] all = tt
all_above_before b created (name ∷ names) all = (above_before b created name all.0, all_above_before b created names all.1)

-- a stream's name differs from one above the counts with that stream
other_name : (created : List Count) (s : Stream) (name : List ℕ) → IsNextStream created s → IsAbove (count_one s.client created) name
    → bytes_eq s.conf.stream name ≡ false
other_name created s name next later =
    false_from_ne_true (bytes_eq s.conf.stream name) (λ is.
    let same : s.conf.stream ≡ name = same_text s.conf.stream name is in
    let client : client_in name ≡ s.client = ap client_in (sym same) ∙ next.client in
    let above : created_by s.client (count_one s.client created) < later.number =
    subst (λ c. created_by c (count_one s.client created) < later.number) client later.above in
    let top : later.number ≤ LAST_NUMBER = later.top in
    let once : created_by s.client (count_one s.client created) ≡ created_by s.client created + 1 = one_counted s.client created in
    let below : created_by s.client created < LAST_NUMBER = next.below in
    let number : s.number ≡ created_by s.client created + 1 = next.number in
    let rest : hyphen ∷ decimal later.number ≡ hyphen ∷ decimal s.number =
    append_cancel_left s.client _ _ (ap (λ c. stream_name c later.number) (sym client) ∙ sym later.is ∙ sym same ∙ next.name) in
    let numbers : decimal later.number ≡ decimal s.number = cc in
    let equal : later.number ≡ s.number = decimal_injective later.number s.number (omega arith) (omega arith) numbers in
    omega arith)

all_other : (created : List Count) (s : Stream) (names : List (List ℕ)) → IsNextStream created s
    → AllByRecursion (IsAbove (count_one s.client created)) names → AllByRecursion (λ name. bytes_eq s.conf.stream name ≡ false) names
all_other created s [] next later = tt
all_other created s (name ∷ names) next later = (other_name created s name next later.0, all_other created s names next later.1)

-- ---- one fact, and those after it

abbrev name_brought : Option Stream → List (List ℕ)
name_brought None = []
name_brought (Some s) = s.conf.stream ∷ []

made_is_brought : (p : Parts) (f : Fact) → name_made f ≡ name_brought (brought_by p f)
made_is_brought p (Created conf time) = refl
made_is_brought p (Configured stream requested delivery description) = refl
made_is_brought p (StatusSet stream status reason operator time) = refl
made_is_brought p (Listed stream subject) = refl
made_is_brought p (Unlisted stream subject) = refl
made_is_brought p (Deleted stream) = refl
made_is_brought p (Published id news time) = refl
made_is_brought p (Settled stream items) = refl
made_is_brought p (Asked stream state time) = refl

step_above : (created : List Count) (b : Option Stream) (later : List (List ℕ)) → BringsNext created b
    → AllByRecursion (IsAbove (counted b created)) later → AllByRecursion (IsAbove created) (name_brought b ++ later)
step_above created None later next above = above
step_above created (Some s) later next above = (next_above created s next, all_above_before (Some s) created later above)

step_distinct : (created : List Count) (b : Option Stream) (later : List (List ℕ)) → BringsNext created b
    → AllByRecursion (IsAbove (counted b created)) later → IsDistinct bytes_eq later → IsDistinct bytes_eq (name_brought b ++ later)
unfolding IsDistinct
step_distinct created None later next above distinct = distinct
step_distinct created (Some s) later next above distinct = (all_other created s later next above, distinct)

names_above : (base : Sum) (facts : List Fact) → is_sound base facts ≡ true → AllByRecursion (IsAbove base.parts.created) (names_made facts)
names_above base [] sound = tt
names_above base (f ∷ facts) sound =
    let both = and_parts (is_fitting base f) (is_sound (sum_of base (f ∷ [])) facts) sound in
    subst (λ l. AllByRecursion (IsAbove base.parts.created) (l ++ names_made facts)) (sym (made_is_brought base.parts f))
    (step_above base.parts.created (brought_by base.parts f) (names_made facts) (fits_brings base f both.0)
    (names_above (sum_of base (f ∷ [])) facts both.1))

pub names_once : NamesAreUsedOnce
unfolding IsDistinct
names_once base [] sound = tt
names_once base (f ∷ facts) sound =
    let next : Sum = sum_of base (f ∷ []) in
    let both = and_parts (is_fitting base f) (is_sound next facts) sound in
    subst (λ l. IsDistinct bytes_eq (l ++ names_made facts)) (sym (made_is_brought base.parts f))
    (step_distinct base.parts.created (brought_by base.parts f) (names_made facts) (fits_brings base f both.0)
    (names_above next facts both.1) (names_once next facts both.1))
