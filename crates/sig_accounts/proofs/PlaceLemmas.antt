-- The first place of an id, among what was published and in an index of it.
use Rattle.std.proofs.Common.{◌≡◌, ◌∙◌, ap, sym, ℕ, zero, suc, ◌+◌, ◌<◌, get_or, arith, nat_eq, cond, find, All, List, [], ◌∷◌, ◌++◌, length, Bool, true, false, bytes_eq, Option, None, Some, if◌then◌else◌, option_map, option_and_then, refl, true≢false, ⊎_elim}
use Rattle.std.specs.Option.{option_or}
use Rattle.std.specs.List.{slice_get}
use Rattle.std.specs.Map.{lookup}
use Rattle.std.proofs.lemmas.List.{length-append}
use Rattle.std.proofs.lemmas.List.Elements.{All-append, All-cons, All-head, All-nil, All-tail}
use Rattle.std.proofs.lemmas.List.Folds.{find-append}
use Rattle.std.proofs.lemmas.Bool.{cases_Bool, eq-eqb, eqb-true}
use Rattle.std.proofs.lemmas.Option.{none-some, same_Some}
use Rattle.std.proofs.lemmas.Slice.Eq.{bytes_eq-Decides}
use Rattle.sig_history.specs.Streams.{Publication, publication_of}
use Rattle.sig_accounts.specs.Places.{Index, IsIndex, candidates, first_place, has_id, led_by, place_in, stands_at}
use Rattle.sig_accounts.specs.PublishIds.{digest_of}

-- what the first place of another id is once there is one more publication, with this id
abbrev with_first : List ℕ → ℕ → List ℕ → Option ℕ → Option ℕ
with_first id place other None = if bytes_eq id other then Some place else None
with_first id place other (Some first) = Some first

-- ---- what is found

shifted : (p : Publication) (ps : List Publication) (o : Option ℕ) → option_and_then (slice_get ps) o ≡ option_and_then (slice_get (p ∷ ps)) (option_map suc o)
shifted p ps None = refl
shifted p ps (Some n) = refl

-- the first publication of an id stands at its first place
first_stands : (id : List ℕ) (ps : List Publication) → publication_of id ps ≡ option_and_then (slice_get ps) (first_place id ps)
first_stands id [] = refl
first_stands id (p ∷ ps) =
    elim (bytes_eq p.id id) as (λ b. (if b then Some p else publication_of id ps)
    ≡ option_and_then (slice_get (p ∷ ps)) (if b then Some 0 else option_map suc (first_place id ps))) [
      | true ↦ refl
      | false ↦ first_stands id ps ∙ shifted p ps (first_place id ps)
    ]

pub found_at : (index : Index) (id : List ℕ) (ps : List Publication) (place : Option ℕ) → IsIndex index ps → place ≡ place_in index ps id
    → option_and_then (slice_get ps) place ≡ publication_of id ps
found_at index id ps place is given = ap (option_and_then (slice_get ps)) (given ∙ is.first id) ∙ sym (first_stands id ps)

-- ---- one more

raised : (id : List ℕ) (place : ℕ) (other : List ℕ) (o : Option ℕ) → option_map suc (with_first id place other o) ≡ with_first id (suc place) other (option_map suc o)
raised id place other (Some n) = refl
raised id place other None =
    elim (bytes_eq id other) as (λ b. option_map suc (if b then Some place else None) ≡ (if b then Some (suc place) else None)) [
      | true ↦ refl
      | false ↦ refl
    ]

first_after : (other : List ℕ) (ps : List Publication) (p : Publication) → first_place other (ps ++ p ∷ []) ≡ with_first p.id (length ps) other (first_place other ps)
first_after other [] p = refl
first_after other (q ∷ qs) p =
    elim (bytes_eq q.id other) as (λ b. (if b then Some 0 else option_map suc (first_place other (qs ++ p ∷ [])))
    ≡ with_first p.id (suc (length qs)) other (if b then Some 0 else option_map suc (first_place other qs))) [
      | true ↦ refl
      | false ↦ ap (option_map suc) (first_after other qs p) ∙ raised p.id (length qs) other (first_place other qs)
    ]

slice_before : {X : Type 0} (xs ys : List X) (i : ℕ) → i < length xs → slice_get (xs ++ ys) i ≡ slice_get xs i
slice_before [] ys i within = absurd (omega (arith, within))
slice_before (x ∷ xs) ys zero within = refl
slice_before (x ∷ xs) ys (suc i) within = slice_before xs ys i (omega (arith, within))

slice_last : {X : Type 0} (xs : List X) (x : X) → slice_get (xs ++ x ∷ []) (length xs) ≡ Some x
slice_last [] x = refl
slice_last (y ∷ xs) x = slice_last xs x

last_has : (id : List ℕ) (ps : List Publication) (p : Publication) → stands_at id (ps ++ p ∷ []) (length ps) ≡ bytes_eq p.id id
last_has id ps p = ap (has_id id) (slice_last ps p)

find_same : {X : Type 0} (f g : X → Bool) (xs : List X) → All (λ x. f x ≡ g x) xs → find f xs ≡ find g xs
find_same f g [] same = refl
find_same f g (x ∷ xs) same =
    ap (λ b. cond b (Some x) (find f xs)) (All-head (λ y. f y ≡ g y) x xs same)
    ∙ ap (cond (g x) (Some x)) (find_same f g xs (All-tail (λ y. f y ≡ g y) x xs same))

-- places that there are keep what stands there
find_kept : (id : List ℕ) (ps : List Publication) (p : Publication) (places : List ℕ) → All (λ q. q < length ps) places
    → find (stands_at id (ps ++ p ∷ [])) places ≡ find (stands_at id ps) places
find_kept id ps p places within =
    find_same (stands_at id (ps ++ p ∷ [])) (stands_at id ps) places
    (λ i d h. ap (has_id id) (slice_before ps (p ∷ []) (get_or places i d) (within i d h)))

led_within : (n : ℕ) (o : Option ℕ) (others : List ℕ) → ((place : ℕ) → o ≡ Some place → place < n) → All (λ q. q < n) others → All (λ q. q < n) (led_by o others)
led_within n None others given rest = rest
led_within n (Some place) others given rest = All-cons (λ q. q < n) place others (given place refl) rest

within_all : (index : Index) (ps : List Publication) (id : List ℕ) → IsIndex index ps → All (λ q. q < length ps) (candidates index id)
within_all index ps id is =
    led_within (length ps) (lookup (nat_eq (digest_of id)) index.given) index.others (is.given (digest_of id)) is.others

place_kept : (index : Index) (ps : List Publication) (p : Publication) (id : List ℕ) → IsIndex index ps → place_in index (ps ++ p ∷ []) id ≡ first_place id ps
place_kept index ps p id is = find_kept id ps p (candidates index id) (within_all index ps id is) ∙ is.first id

longer : (ps : List Publication) (p : Publication) → length (ps ++ p ∷ []) ≡ length ps + 1
longer ps p = length-append ps (p ∷ [])

further : (ps : List Publication) (p : Publication) (places : List ℕ) → All (λ q. q < length ps) places → All (λ q. q < length (ps ++ p ∷ [])) places
further ps p places within = λ i d h. let more = longer ps p in let low = within i d h in omega (arith, more, low)

last_within : (ps : List Publication) (p : Publication) → length ps < length (ps ++ p ∷ [])
last_within ps p = let more = longer ps p in omega (arith, more)

-- ---- one of an id that was there before

unless : (b : Bool) (n : ℕ) → (b ≡ true → ⊥) → None ≡ (if b then Some n else None)
unless true n never = absurd (never refl)
unless false n never = refl

kept_first : (own id : List ℕ) (n : ℕ) (o : Option ℕ) → (bytes_eq own id ≡ true → o ≡ None → ⊥) → o ≡ with_first own n id o
kept_first own id n (Some place) never = refl
kept_first own id n None never = unless (bytes_eq own id) n (λ same. never same refl)

some_none : (f : ℕ) (o : Option ℕ) → o ≡ Some f → o ≡ None → ⊥
some_none f o is none = none-some f (sym none ∙ is)

pub index_same : (index : Index) (ps : List Publication) (p : Publication) (f : ℕ) → IsIndex index ps → place_in index ps p.id ≡ Some f → IsIndex index (ps ++ p ∷ [])
index_same index ps p f is found = record {
  given = λ digest place e. let more = longer ps p in let low = is.given digest place e in omega (arith, more, low);
  others = further ps p index.others is.others;
  first = λ id.
      place_kept index ps p id is
      ∙ kept_first p.id id (length ps) (first_place id ps)
      (λ same none. some_none f (first_place p.id ps) (sym (is.first p.id) ∙ found) (ap (λ i. first_place i ps) ((bytes_eq-Decides p.id id).0 same) ∙ none))
      ∙ sym (first_after id ps p);
}

-- ---- one whose digest is that of another

led_append : (o : Option ℕ) (xs ys : List ℕ) → led_by o (xs ++ ys) ≡ led_by o xs ++ ys
led_append None xs ys = refl
led_append (Some place) xs ys = refl

or_first : (own id : List ℕ) (n : ℕ) (o : Option ℕ) (b : Bool) → b ≡ bytes_eq own id → option_or o (cond b (Some n) None) ≡ with_first own n id o
or_first own id n None b same = ap (λ t. cond t (Some n) None) same
or_first own id n (Some place) b same = refl

pub index_other : (index : Index) (ps : List Publication) (p : Publication) → IsIndex index ps
    → IsIndex (record { given = index.given; others = index.others ++ length ps ∷ [] }) (ps ++ p ∷ [])
index_other index ps p is = record {
  given = λ digest place e. let more = longer ps p in let low = is.given digest place e in omega (arith, more, low);
  others = All-append (λ q. q < length (ps ++ p ∷ [])) index.others (length ps ∷ []) (further ps p index.others is.others)
      (All-cons (λ q. q < length (ps ++ p ∷ [])) (length ps) [] (last_within ps p) (All-nil (λ q. q < length (ps ++ p ∷ []))));
  first = λ id.
      let given : Option ℕ = lookup (nat_eq (digest_of id)) index.given in
      let test : ℕ → Bool = stands_at id (ps ++ p ∷ []) in
      ap (find test) (led_append given index.others (length ps ∷ []))
      ∙ find-append test (led_by given index.others) (length ps ∷ [])
      ∙ ap (λ o. option_or o (cond (test (length ps)) (Some (length ps)) None)) (place_kept index ps p id is)
      ∙ or_first p.id id (length ps) (first_place id ps) (test (length ps)) (last_has id ps p)
      ∙ sym (first_after id ps p);
}

-- ---- one of a new digest

-- the place of the new id stands before the others, where no place was given
by_test : (own id : List ℕ) (n : ℕ) (o : Option ℕ) → (bytes_eq own id ≡ true → o ≡ None) → cond (bytes_eq own id) (Some n) o ≡ with_first own n id o
by_test own id n (Some place) none = elim_some (bytes_eq own id) none
  where
    elim_some : (b : Bool) → (b ≡ true → Some place ≡ None) → cond b (Some n) (Some place) ≡ Some place
    elim_some true none = absurd (none-some place (sym (none refl)))
    elim_some false none = refl
by_test own id n None none = refl

module _ (index : Index) (given : List (ℕ × ℕ)) (ps : List Publication) (p : Publication) (is : IsIndex index ps)
    (new : (digest : ℕ) → lookup (nat_eq digest) given ≡ cond (nat_eq (digest_of p.id) digest) (Some (length ps)) (lookup (nat_eq digest) index.given))
    (free : lookup (nat_eq (digest_of p.id)) index.given ≡ None) (absent : place_in index ps p.id ≡ None) where
  abbrev after : List Publication
  after = ps ++ p ∷ []

  given_within : (digest place : ℕ) (b : Bool) (o : Option ℕ) → o ≡ cond b (Some (length ps)) (lookup (nat_eq digest) index.given) → o ≡ Some place → place < length after
  given_within digest place true o e is_place =
      let here : place ≡ length ps = same_Some place (length ps) (sym is_place ∙ e) in
      let last = last_within ps p in
      omega (arith, here, last)
  given_within digest place false o e is_place =
      let more = longer ps p in
      let low = is.given digest place (sym e ∙ is_place) in
      omega (arith, more, low)

  unseen : (id : List ℕ) → bytes_eq p.id id ≡ true → first_place id ps ≡ None
  unseen id same = ap (λ i. first_place i ps) (sym ((bytes_eq-Decides p.id id).0 same)) ∙ sym (is.first p.id) ∙ absent

  -- an id of another digest is found as before
  apart : (id : List ℕ) → nat_eq (digest_of p.id) (digest_of id) ≡ false → find (stands_at id after) (led_by (lookup (nat_eq (digest_of id)) given) index.others) ≡ first_place id after
  apart id differ =
      ap (λ o. find (stands_at id after) (led_by o index.others)) (new (digest_of id) ∙ ap (λ b. cond b (Some (length ps)) (lookup (nat_eq (digest_of id)) index.given)) differ)
      ∙ place_kept index ps p id is
      ∙ kept_first p.id id (length ps) (first_place id ps)
      (λ same none. true≢false (sym (eq-eqb (digest_of p.id) (digest_of p.id) refl) ∙ ap (λ i. nat_eq (digest_of p.id) (digest_of i)) ((bytes_eq-Decides p.id id).0 same) ∙ differ))
      ∙ sym (first_after id ps p)

  -- one of this digest is the new one, or among the others
  together : (id : List ℕ) → nat_eq (digest_of p.id) (digest_of id) ≡ true → find (stands_at id after) (led_by (lookup (nat_eq (digest_of id)) given) index.others) ≡ first_place id after
  together id same =
      let none : lookup (nat_eq (digest_of id)) index.given ≡ None =
      ap (λ d. lookup (nat_eq d) index.given) (sym (eqb-true (digest_of p.id) (digest_of id) same)) ∙ free in
      let others : find (stands_at id after) index.others ≡ first_place id ps =
      ap (λ o. find (stands_at id after) (led_by o index.others)) (sym none) ∙ place_kept index ps p id is in
      ap (λ o. find (stands_at id after) (led_by o index.others)) (new (digest_of id) ∙ ap (λ b. cond b (Some (length ps)) (lookup (nat_eq (digest_of id)) index.given)) same)
      ∙ ap (λ b. cond b (Some (length ps)) (find (stands_at id after) index.others)) (last_has id ps p)
      ∙ ap (cond (bytes_eq p.id id) (Some (length ps))) others
      ∙ by_test p.id id (length ps) (first_place id ps) (unseen id)
      ∙ sym (first_after id ps p)

  pub index_new : IsIndex (record { given = given; others = index.others }) after
  index_new = record {
    given = λ digest place e. given_within digest place (nat_eq (digest_of p.id) digest) (lookup (nat_eq digest) given) (new digest) e;
    others = further ps p index.others is.others;
    first = λ id. ⊎_elim (together id) (apart id) (cases_Bool (nat_eq (digest_of p.id) (digest_of id)));
  }
