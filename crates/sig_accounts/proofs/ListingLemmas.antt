-- Subjects by their places: what is listed, where one is put there and where one is taken off.
use Rattle.std.proofs.Common.{◌≡◌, ◌≢◌, ◌∙◌, ap, sym, subst, ℕ, zero, suc, ◌+◌, ◌-◌, ◌<◌, ◌≤◌, List, [], ◌∷◌, ◌++◌, map, filter, length, drop, get_or, Bool, true, false, not, ◌||◌, Option, Some, None, if◌then◌else◌, inl, inr, refl, arith}
use Rattle.std.specs.List.{cons_option, filter_map, list_any, slice_get, swap_remove}
use Rattle.std.specs.Option.{option_map, IfSome}
use Rattle.std.specs.Map.{keys_of, values_of}
use Rattle.std.proofs.Math.ListN.{set}
use Rattle.std.proofs.lemmas.Bool.{cases_lt}
use Rattle.std.proofs.lemmas.List.{length-map, length-set, length-take-le}
use Rattle.std.proofs.lemmas.List.Elements.{filter_map-append}
use Rattle.std.proofs.lemmas.Option.{none-some, same_Some, slice_get-get_or, slice_get-map, slice_get_within}
use Rattle.sig_accounts.specs.Listing.{AreLinked, listed_in, subject_at}
use Rattle.sig_accounts.proofs.ItemLemmas.{beside, differ, dropped, end_at, end_before, end_past, set_here, set_there, take_below}

same_truth : (a b : Bool) → (a ≡ true → b ≡ true) → (b ≡ true → a ≡ true) → a ≡ b
same_truth true b to from = sym (to refl)
same_truth false true to from = from refl
same_truth false false to from = refl

pub as_long : {X : Type 0} (es : List (X × ℕ)) → length (keys_of es) ≡ length (values_of es)
as_long es = length-map es _ ∙ sym (length-map es _)

-- ---- whether one of those that are listed passes a test

any_at : {X : Type 0} (t : X → Bool) (xs : List X) (i : ℕ) (x : X) → slice_get xs i ≡ Some x → t x ≡ true → list_any t xs ≡ true
any_at t [] i x at passes = absurd (none-some x at)
any_at t (y ∷ ys) zero x at passes = ap (λ b. b || list_any t ys) (ap t (same_Some y x at) ∙ passes)
any_at t (y ∷ ys) (suc i) x at passes = elim (t y) as (λ b. b || list_any t ys ≡ true) [
  | true ↦ refl
  | false ↦ any_at t ys i x at passes
]

record IsPassed {X : Type 0} (t : X → Bool) (xs : List X) : Type 0 where
  pub place : ℕ
  pub item : X
  pub at : slice_get xs place ≡ Some item
  pub passes : t item ≡ true

any_found : {X : Type 0} (t : X → Bool) (xs : List X) → list_any t xs ≡ true → IsPassed t xs
any_found t [] is = cc
any_found t (x ∷ xs) is = elim (t x) as (λ b. t x ≡ b → b || list_any t xs ≡ true → IsPassed t (x ∷ xs)) [
  | true ↦ λ passes is. record { place = 0; item = x; at = refl; passes = passes }
  | false ↦ λ fails is. let rest = any_found t xs is in record { place = suc rest.place; item = rest.item; at = rest.at; passes = rest.passes }
] refl is

mapped_at : {X Y : Type 0} (f : Y → Option X) (t : X → Bool) (ys : List Y) (i : ℕ) (y : Y) (x : X)
    → slice_get ys i ≡ Some y → f y ≡ Some x → t x ≡ true → list_any t (filter_map f ys) ≡ true
mapped_at f t [] i y x at is passes = absurd (none-some y at)
mapped_at f t (z ∷ ys) zero y x at is passes =
    let first : f z ≡ Some x = ap f (same_Some z y at) ∙ is in
    ap (λ o. list_any t (cons_option o (filter_map f ys))) first ∙ ap (λ b. b || list_any t (filter_map f ys)) passes
mapped_at f t (z ∷ ys) (suc i) y x at is passes =
    let rest : list_any t (filter_map f ys) ≡ true = mapped_at f t ys i y x at is passes in
    elim (f z) as (λ o. list_any t (cons_option o (filter_map f ys)) ≡ true) [
      | None ↦ rest
      | Some z' ↦ elim (t z') as (λ b. b || list_any t (filter_map f ys) ≡ true) [
        | true ↦ refl
        | false ↦ rest
      ]
    ]

record IsMapped {X Y : Type 0} (f : Y → Option X) (t : X → Bool) (ys : List Y) : Type 0 where
  pub place : ℕ
  pub from : Y
  pub item : X
  pub at : slice_get ys place ≡ Some from
  pub gives : f from ≡ Some item
  pub passes : t item ≡ true

mapped_found : {X Y : Type 0} (f : Y → Option X) (t : X → Bool) (ys : List Y) → list_any t (filter_map f ys) ≡ true → IsMapped f t ys
mapped_found f t [] is = cc
mapped_found {X} {Y} f t (y ∷ ys) is =
    let later : IsMapped f t ys → IsMapped f t (y ∷ ys) = λ m. record { place = suc m.place; from = m.from; item = m.item; at = m.at; gives = m.gives; passes = m.passes } in
    elim (f y) as (λ o. f y ≡ o → list_any t (cons_option o (filter_map f ys)) ≡ true → IsMapped f t (y ∷ ys)) [
      | None ↦ λ none is. later (mapped_found f t ys is)
      | Some x ↦ λ some is. elim (t x) as (λ b. t x ≡ b → b || list_any t (filter_map f ys) ≡ true → IsMapped f t (y ∷ ys)) [
        | true ↦ λ passes is. record { place = 0; from = y; item = x; at = refl; gives = some; passes = passes }
        | false ↦ λ fails is. later (mapped_found f t ys is)
      ] refl is
    ] refl is

-- a subject passes exactly where a listed one does
pub any_listed : {X : Type 0} (t : X → Bool) (es : List (X × ℕ)) (order : List (Option ℕ)) → AreLinked (values_of es) order
    → list_any t (keys_of es) ≡ list_any t (listed_in (keys_of es) order)
any_listed {X} t es order linked = same_truth _ _ to from
  where
    to : list_any t (keys_of es) ≡ true → list_any t (listed_in (keys_of es) order) ≡ true
    to is =
        let f : IsPassed t (keys_of es) = any_found t (keys_of es) is in
        let p : (p : ℕ) × (slice_get (values_of es) f.place ≡ Some p) = beside (keys_of es) (values_of es) f.place f.item (as_long es) f.at in
        mapped_at (subject_at (keys_of es)) t order p.0 (Some f.place) f.item ((linked f.place p.0).0 p.1) f.at f.passes

    by_slot : (m : IsMapped (subject_at (keys_of es)) t order) (slot : Option ℕ) → m.from ≡ slot → list_any t (keys_of es) ≡ true
    by_slot m None is = absurd (none-some m.item (sym (ap (subject_at (keys_of es)) is) ∙ m.gives))
    by_slot m (Some i) is = any_at t (keys_of es) i m.item (sym (ap (subject_at (keys_of es)) is) ∙ m.gives) m.passes

    from : list_any t (listed_in (keys_of es) order) ≡ true → list_any t (keys_of es) ≡ true
    from is = let m : IsMapped (subject_at (keys_of es)) t order = mapped_found (subject_at (keys_of es)) t order is in by_slot m m.from refl

-- ---- lists that give the same

alike : {X Y : Type 0} (f g : Y → Option X) (xs ys : List Y) → ((p : ℕ) → option_map f (slice_get xs p) ≡ option_map g (slice_get ys p))
    → filter_map f xs ≡ filter_map g ys
alike f g [] [] same = refl
alike f g [] (y ∷ ys) same = absurd (none-some (g y) (same 0))
alike f g (x ∷ xs) [] same = absurd (none-some (f x) (sym (same 0)))
alike f g (x ∷ xs) (y ∷ ys) same =
    ap (λ o. cons_option o (filter_map f xs)) (same_Some (f x) (g y) (same 0))
    ∙ ap (cons_option (g y)) (alike f g xs ys (λ p. same (suc p)))

-- ---- one is put at the end

pub linked_added : (places : List ℕ) (order : List (Option ℕ)) → AreLinked places order
    → AreLinked (places ++ length order ∷ []) (order ++ Some (length places) ∷ [])
linked_added places order linked = λ i p. (to i p, from i p)
  where
    to_new : (i p : ℕ) → length places ≤ i → slice_get (places ++ length order ∷ []) i ≡ Some p → slice_get (order ++ Some (length places) ∷ []) p ≡ Some (Some i)
    to_new i p past at = elim (differ (length places) i) [
      | inl same ↦
          let place : length order ≡ p = same_Some _ _ (sym (end_at places (length order)) ∙ ap (slice_get (places ++ length order ∷ [])) same ∙ at) in
          ap (slice_get (order ++ Some (length places) ∷ [])) (sym place) ∙ end_at order (Some (length places)) ∙ ap (λ n. Some (Some n)) same
      | inr apart ↦ absurd (none-some p (sym (end_past places (length order) i (omega (arith, past, apart))) ∙ at))
    ]

    to : (i p : ℕ) → slice_get (places ++ length order ∷ []) i ≡ Some p → slice_get (order ++ Some (length places) ∷ []) p ≡ Some (Some i)
    to i p at = elim (cases_lt i (length places)) [
      | inl below ↦
          let old : slice_get order p ≡ Some (Some i) = (linked i p).0 (sym (end_before places _ i below) ∙ at) in
          end_before order _ p (slice_get_within order p (Some i) old) ∙ old
      | inr past ↦ to_new i p past at
    ]

    from_new : (i p : ℕ) → length order ≤ p → slice_get (order ++ Some (length places) ∷ []) p ≡ Some (Some i) → slice_get (places ++ length order ∷ []) i ≡ Some p
    from_new i p past at = elim (differ (length order) p) [
      | inl same ↦
          let index : length places ≡ i = same_Some _ _ (same_Some _ _ (sym (end_at order (Some (length places))) ∙ ap (slice_get (order ++ Some (length places) ∷ [])) same ∙ at)) in
          ap (slice_get (places ++ length order ∷ [])) (sym index) ∙ end_at places (length order) ∙ ap Some same
      | inr apart ↦ absurd (none-some (Some i) (sym (end_past order (Some (length places)) p (omega (arith, past, apart))) ∙ at))
    ]

    from : (i p : ℕ) → slice_get (order ++ Some (length places) ∷ []) p ≡ Some (Some i) → slice_get (places ++ length order ∷ []) i ≡ Some p
    from i p at = elim (cases_lt p (length order)) [
      | inl below ↦
          let old : slice_get places i ≡ Some p = (linked i p).1 (sym (end_before order _ p below) ∙ at) in
          end_before places _ i (slice_get_within places i p old) ∙ old
      | inr past ↦ from_new i p past at
    ]

pub listed_added : {X : Type 0} (es : List (X × ℕ)) (order : List (Option ℕ)) (k : X) → AreLinked (values_of es) order
    → listed_in (keys_of es ++ k ∷ []) (order ++ Some (length (keys_of es)) ∷ []) ≡ listed_in (keys_of es) order ++ k ∷ []
listed_added {X} es order k linked =
    filter_map-append (subject_at (keys_of es ++ k ∷ [])) order (Some (length (keys_of es)) ∷ [])
    ∙ ap (λ l. l ++ filter_map (subject_at (keys_of es ++ k ∷ [])) (Some (length (keys_of es)) ∷ [])) (alike _ _ order order old)
    ∙ ap (λ o. listed_in (keys_of es) order ++ cons_option o []) (end_at (keys_of es) k)
  where
    slot : (p : ℕ) (o : Option (Option ℕ)) → slice_get order p ≡ o → option_map (subject_at (keys_of es ++ k ∷ [])) o ≡ option_map (subject_at (keys_of es)) o
    slot p None at = refl
    slot p (Some None) at = refl
    slot p (Some (Some i)) at =
        let within : i < length (values_of es) = slice_get_within (values_of es) i p ((linked i p).1 at) in
        ap Some (end_before (keys_of es) (k ∷ []) i (omega (arith, within, as_long es)))

    old : (p : ℕ) → option_map (subject_at (keys_of es ++ k ∷ [])) (slice_get order p) ≡ option_map (subject_at (keys_of es)) (slice_get order p)
    old p = slot p (slice_get order p) refl

-- ---- one is taken off

-- the last item took the place of the one at an index
pub record IsSwappedOut {X : Type 0} (old now : List X) (i : ℕ) : Type 0 where
  pub shorter : length now + 1 ≡ length old
  pub kept : (j : ℕ) → i ≢ j → j < length now → slice_get now j ≡ slice_get old j
  pub moved : i < length now → slice_get now i ≡ slice_get old (length now)

pub swapped : {X : Type 0} (old : List X) (i : ℕ) (d : X) → i < length old → IsSwappedOut old (swap_remove old i d) i
swapped {X} old i d within = record {
  shorter = ap (λ n. n + 1) long ∙ omega (arith, within);
  kept = λ j apart below. take_below _ _ j (omega (arith, long, below)) ∙ set_there old i j _ apart;
  moved = λ below.
      take_below _ _ i (omega (arith, long, below)) ∙ set_here old i _ within
      ∙ sym (slice_get-get_or old (length old - 1) d (omega (arith, within))) ∙ ap (slice_get old) (sym long);
}
  where
    long : length (swap_remove old i d) ≡ length old - 1
    long = length-take-le (length old - 1) (set old i (get_or old (length old - 1) d)) (omega (arith, length-set old i (get_or old (length old - 1) d)))

pub swapped_map : {X Y : Type 0} (f : X → Y) (old now : List X) (i : ℕ) → IsSwappedOut old now i → IsSwappedOut (map f old) (map f now) i
swapped_map f old now i s = record {
  shorter = omega (arith, s.shorter, length-map now f, length-map old f);
  kept = λ j apart below.
      slice_get-map f now j ∙ ap (option_map f) (s.kept j apart (omega (arith, below, length-map now f))) ∙ sym (slice_get-map f old j);
  moved = λ below.
      slice_get-map f now i ∙ ap (option_map f) (s.moved (omega (arith, below, length-map now f))) ∙ sym (slice_get-map f old (length now))
      ∙ ap (slice_get (map f old)) (sym (length-map now f));
}

-- what a removal by index answers
pub swapped_entry : {X : Type 0} (es fs : List (X × ℕ)) (i : ℕ) (r : Option (X × ℕ)) (k : X) (p : ℕ) → i < length es → r ≡ slice_get es i → r ≡ Some (k, p)
    → IfSome r (λ e. fs ≡ swap_remove es i e) → IsSwappedOut es fs i × (slice_get (values_of es) i ≡ Some p)
swapped_entry {X} es fs i r k p within read is out =
    let now : fs ≡ swap_remove es i (k, p) = subst (λ o. IfSome o (λ e. fs ≡ swap_remove es i e)) is out in
    let found : slice_get es i ≡ Some (k, p) = sym read ∙ is in
    (subst (λ l. IsSwappedOut es l i) (sym now) (swapped es i (k, p) within), slice_get-map _ es i ∙ ap (option_map (λ (e : X × ℕ). e.1)) found)

module _ (places now : List ℕ) (order : List (Option ℕ)) (i p : ℕ) (linked : AreLinked places order) (out : IsSwappedOut places now i) (at : slice_get places i ≡ Some p) where
  has : slice_get order p ≡ Some (Some i)
  has = (linked i p).0 at

  pub inside : p < length order
  inside = slice_get_within order p (Some i) has

  -- another subject has another place
  other_place : (j q : ℕ) → i ≢ j → slice_get order q ≡ Some (Some j) → p ≢ q
  other_place j q apart held same = apart (same_Some i j (same_Some _ _ (sym has ∙ ap (slice_get order) same ∙ held)))

  -- another place has another subject
  other_subject : (j q : ℕ) → p ≢ q → slice_get places j ≡ Some q → i ≢ j
  other_subject j q apart held same = apart (same_Some p q (sym at ∙ ap (slice_get places) same ∙ held))

  emptied : slice_get (set order p None) p ≡ Some None
  emptied = set_here order p None inside

  -- it was the last
  pub linked_without : length now ≤ i → AreLinked now (set order p None)
  linked_without last = λ j q. (to j q, from j q)
    where
      to : (j q : ℕ) → slice_get now j ≡ Some q → slice_get (set order p None) q ≡ Some (Some j)
      to j q is =
          let below : j < length now = slice_get_within now j q is in
          let apart : i ≢ j = λ e. (let no : ⊥ = omega (arith, below, last, e) in no) in
          let held : slice_get order q ≡ Some (Some j) = (linked j q).0 (sym (out.kept j apart below) ∙ is) in
          set_there order p q None (other_place j q apart held) ∙ held

      from : (j q : ℕ) → slice_get (set order p None) q ≡ Some (Some j) → slice_get now j ≡ Some q
      from j q is = elim (differ p q) [
        | inl same ↦ absurd (none-some j (same_Some _ _ (sym emptied ∙ ap (slice_get (set order p None)) same ∙ is)))
        | inr apart ↦
            let held : slice_get places j ≡ Some q = (linked j q).1 (sym (set_there order p q None apart) ∙ is) in
            let within : j < length places = slice_get_within places j q held in
            let other : i ≢ j = other_subject j q apart held in
            let own : i < length places = slice_get_within places i p at in
            out.kept j other (omega (arith, within, other, own, last, out.shorter)) ∙ held
      ]

  -- another one took its index
  module _ (m : ℕ) (below : i < length now) (moved : slice_get now i ≡ Some m) where
    was_last : slice_get places (length now) ≡ Some m
    was_last = sym (out.moved below) ∙ moved

    last_has : slice_get order m ≡ Some (Some (length now))
    last_has = (linked (length now) m).0 was_last

    not_last : i ≢ length now
    not_last e = let no : ⊥ = omega (arith, below, e) in no

    apart_place : p ≢ m
    apart_place = other_place (length now) m not_last last_has

    pub inside_too : m < length (set order p None)
    inside_too = let w : m < length order = slice_get_within order m (Some (length now)) last_has in omega (arith, w, length-set order p None)

    pub linked_moved_in : AreLinked now (set (set order p None) m (Some i))
    linked_moved_in = λ j q. (to j q, from j q)
      where
        to : (j q : ℕ) → slice_get now j ≡ Some q → slice_get (set (set order p None) m (Some i)) q ≡ Some (Some j)
        to j q is = elim (differ i j) [
          | inl same ↦
              let place : m ≡ q = same_Some m q (sym moved ∙ ap (slice_get now) same ∙ is) in
              ap (slice_get (set (set order p None) m (Some i))) (sym place) ∙ set_here (set order p None) m (Some i) inside_too ∙ ap (λ n. Some (Some n)) same
          | inr apart ↦
              let low : j < length now = slice_get_within now j q is in
              let held : slice_get order q ≡ Some (Some j) = (linked j q).0 (sym (out.kept j apart low) ∙ is) in
              let other : m ≢ q = λ e. (let same : length now ≡ j = same_Some _ _ (same_Some _ _ (sym last_has ∙ ap (slice_get order) e ∙ held)) in let no : ⊥ = omega (arith, low, same) in no) in
              set_there (set order p None) m q (Some i) other ∙ set_there order p q None (other_place j q apart held) ∙ held
        ]

        from_other : (j q : ℕ) → m ≢ q → slice_get (set order p None) q ≡ Some (Some j) → slice_get now j ≡ Some q
        from_other j q far is = elim (differ p q) [
          | inl same ↦ absurd (none-some j (same_Some _ _ (sym emptied ∙ ap (slice_get (set order p None)) same ∙ is)))
          | inr apart ↦
              let held : slice_get places j ≡ Some q = (linked j q).1 (sym (set_there order p q None apart) ∙ is) in
              let within : j < length places = slice_get_within places j q held in
              let other : i ≢ j = other_subject j q apart held in
              let not_end : length now ≢ j = λ e. far (same_Some m q (sym was_last ∙ ap (slice_get places) e ∙ held)) in
              out.kept j other (omega (arith, within, not_end, out.shorter)) ∙ held
        ]

        from : (j q : ℕ) → slice_get (set (set order p None) m (Some i)) q ≡ Some (Some j) → slice_get now j ≡ Some q
        from j q is = elim (differ m q) [
          | inl same ↦
              let index : i ≡ j = same_Some _ _ (same_Some _ _ (sym (set_here (set order p None) m (Some i) inside_too) ∙ ap (slice_get (set (set order p None) m (Some i))) same ∙ is)) in
              ap (slice_get now) (sym index) ∙ moved ∙ ap Some same
          | inr apart ↦ from_other j q apart (sym (set_there (set order p None) m q (Some i) apart) ∙ is)
        ]

-- what is listed, as if the place alone had been emptied
module _ {X : Type 0} (es fs : List (X × ℕ)) (order : List (Option ℕ)) (i p : ℕ) (linked : AreLinked (values_of es) order)
    (out : IsSwappedOut es fs i) (at : slice_get (values_of es) i ≡ Some p) where
  places_out : IsSwappedOut (values_of es) (values_of fs) i
  places_out = swapped_map _ es fs i out

  keys_out : IsSwappedOut (keys_of es) (keys_of fs) i
  keys_out = swapped_map _ es fs i out

  short : length (keys_of fs) ≡ length (values_of fs)
  short = as_long fs

  held_before : (q j : ℕ) → slice_get (set order p None) q ≡ Some (Some j) → (p ≢ q) × (slice_get order q ≡ Some (Some j))
  held_before q j is = elim (differ p q) [
    | inl same ↦ absurd (none-some j (same_Some _ _ (sym (emptied (values_of es) (values_of fs) order i p linked places_out at) ∙ ap (slice_get (set order p None)) same ∙ is)))
    | inr apart ↦ (apart, sym (set_there order p q None apart) ∙ is)
  ]

  kept_key : (q j : ℕ) → slice_get (set order p None) q ≡ Some (Some j) → j ≢ length (values_of fs) → slice_get (keys_of fs) j ≡ slice_get (keys_of es) j
  kept_key q j is below =
      let h = held_before q j is in
      let place : slice_get (values_of es) j ≡ Some q = (linked j q).1 h.1 in
      let within : j < length (values_of es) = slice_get_within (values_of es) j q place in
      keys_out.kept j (other_subject (values_of es) (values_of fs) order i p linked places_out at j q h.0 place)
      (omega (arith, within, below, short, places_out.shorter))

  pub listed_without : length (values_of fs) ≤ i → listed_in (keys_of fs) (set order p None) ≡ listed_in (keys_of es) (set order p None)
  listed_without last = alike _ _ _ _ (λ q. slot q (slice_get (set order p None) q) refl)
    where
      slot : (q : ℕ) (o : Option (Option ℕ)) → slice_get (set order p None) q ≡ o → option_map (subject_at (keys_of fs)) o ≡ option_map (subject_at (keys_of es)) o
      slot q None is = refl
      slot q (Some None) is = refl
      slot q (Some (Some j)) is =
          let h = held_before q j is in
          let place : slice_get (values_of es) j ≡ Some q = (linked j q).1 h.1 in
          let within : j < length (values_of es) = slice_get_within (values_of es) j q place in
          let own : i < length (values_of es) = slice_get_within (values_of es) i p at in
          let other : i ≢ j = other_subject (values_of es) (values_of fs) order i p linked places_out at j q h.0 place in
          ap Some (kept_key q j is (λ e. (let no : ⊥ = omega (arith, e, last, own, places_out.shorter, other) in no)))

  pub listed_moved_in : (m : ℕ) → i < length (values_of fs) → slice_get (values_of fs) i ≡ Some m
      → listed_in (keys_of fs) (set (set order p None) m (Some i)) ≡ listed_in (keys_of es) (set order p None)
  listed_moved_in m below moved = alike _ _ _ _ place
    where
      its : slice_get (set order p None) m ≡ Some (Some (length (values_of fs)))
      its = set_there order p m None (apart_place (values_of es) (values_of fs) order i p linked places_out at m below moved)
          ∙ last_has (values_of es) (values_of fs) order i p linked places_out at m below moved

      room : m < length (set order p None)
      room = inside_too (values_of es) (values_of fs) order i p linked places_out at m below moved

      slot : (q : ℕ) → m ≢ q → (o : Option (Option ℕ)) → slice_get (set order p None) q ≡ o → option_map (subject_at (keys_of fs)) o ≡ option_map (subject_at (keys_of es)) o
      slot q apart None is = refl
      slot q apart (Some None) is = refl
      slot q apart (Some (Some j)) is =
          let h = held_before q j is in
          let place : slice_get (values_of es) j ≡ Some q = (linked j q).1 h.1 in
          let end : slice_get (values_of es) (length (values_of fs)) ≡ Some m = was_last (values_of es) (values_of fs) order i p linked places_out at m below moved in
          ap Some (kept_key q j is (λ e. apart (same_Some m q (sym end ∙ ap (slice_get (values_of es)) (sym e) ∙ place))))

      place : (q : ℕ) → option_map (subject_at (keys_of fs)) (slice_get (set (set order p None) m (Some i)) q) ≡ option_map (subject_at (keys_of es)) (slice_get (set order p None) q)
      place q = elim (differ m q) [
        | inl same ↦
            ap (λ n. option_map (subject_at (keys_of fs)) (slice_get (set (set order p None) m (Some i)) n)) (sym same)
            ∙ ap (option_map (subject_at (keys_of fs))) (set_here (set order p None) m (Some i) room)
            ∙ ap Some (keys_out.moved (omega (arith, below, short)) ∙ ap (slice_get (keys_of es)) short)
            ∙ sym (ap (option_map (subject_at (keys_of es))) its)
            ∙ ap (λ n. option_map (subject_at (keys_of es)) (slice_get (set order p None) n)) same
        | inr apart ↦
            ap (option_map (subject_at (keys_of fs))) (set_there (set order p None) m q (Some i) apart)
            ∙ slot q apart (slice_get (set order p None) q) refl
      ]

-- ---- those that don't pass a test

kept_all : {X Y : Type 0} (f : Y → Option X) (t : X → Bool) (ys : List Y)
    → ((q : ℕ) (y : Y) (x : X) → slice_get ys q ≡ Some y → f y ≡ Some x → t x ≡ false) → filter (λ x. not (t x)) (filter_map f ys) ≡ filter_map f ys
kept_all f t [] fails = refl
kept_all {X} f t (y ∷ ys) fails =
    let rest : filter (λ x. not (t x)) (filter_map f ys) ≡ filter_map f ys = kept_all f t ys (λ q. fails (suc q)) in
    elim (f y) as (λ o. f y ≡ o → filter (λ x. not (t x)) (cons_option o (filter_map f ys)) ≡ cons_option o (filter_map f ys)) [
      | None ↦ λ is. rest
      | Some x ↦ λ is.
          ap (λ b. if not b then x ∷ filter (λ z. not (t z)) (filter_map f ys) else filter (λ z. not (t z)) (filter_map f ys)) (fails 0 y x refl is)
          ∙ ap (λ l. x ∷ l) rest
    ] refl

-- where an item alone passes, the others are left
pub emptied_one : {X Y : Type 0} (f : Y → Option X) (none : Y) (t : X → Bool) → f none ≡ None → (ys : List Y) (p : ℕ)
    → ((y : Y) (x : X) → slice_get ys p ≡ Some y → f y ≡ Some x → t x ≡ true)
    → ((q : ℕ) (y : Y) (x : X) → p ≢ q → slice_get ys q ≡ Some y → f y ≡ Some x → t x ≡ false)
    → filter_map f (set ys p none) ≡ filter (λ x. not (t x)) (filter_map f ys)
emptied_one f none t empty [] p passes fails = refl
emptied_one {X} f none t empty (y ∷ ys) zero passes fails =
    let rest : filter (λ x. not (t x)) (filter_map f ys) ≡ filter_map f ys =
    kept_all f t ys (λ q z x. fails (suc q) z x (λ e. (let no : ⊥ = omega (arith, e) in no))) in
    ap (λ o. cons_option o (filter_map f ys)) empty
    ∙ elim (f y) as (λ o. f y ≡ o → filter_map f ys ≡ filter (λ x. not (t x)) (cons_option o (filter_map f ys))) [
      | None ↦ λ is. sym rest
      | Some x ↦ λ is.
          sym (ap (λ b. if not b then x ∷ filter (λ z. not (t z)) (filter_map f ys) else filter (λ z. not (t z)) (filter_map f ys)) (passes y x refl is) ∙ rest)
    ] refl
emptied_one {X} f none t empty (y ∷ ys) (suc p) passes fails =
    let rest : filter_map f (set ys p none) ≡ filter (λ x. not (t x)) (filter_map f ys) =
    emptied_one f none t empty ys p passes (λ q z x apart. fails (suc q) z x (λ e. apart (omega (arith, e)))) in
    elim (f y) as (λ o. f y ≡ o → cons_option o (filter_map f (set ys p none)) ≡ filter (λ x. not (t x)) (cons_option o (filter_map f ys))) [
      | None ↦ λ is. rest
      | Some x ↦ λ is.
          ap (λ l. x ∷ l) rest
          ∙ sym (ap (λ b. if not b then x ∷ filter (λ z. not (t z)) (filter_map f ys) else filter (λ z. not (t z)) (filter_map f ys))
          (fails 0 y x (λ e. (let no : ⊥ = omega (arith, e) in no)) refl is))
    ] refl

pub none_passes : {X : Type 0} (t : X → Bool) (xs : List X) → list_any t xs ≡ false → filter (λ x. not (t x)) xs ≡ xs
none_passes t [] fails = refl
none_passes t (x ∷ xs) fails = elim (t x) as (λ b. b || list_any t xs ≡ false → (if not b then x ∷ filter (λ y. not (t y)) xs else filter (λ y. not (t y)) xs) ≡ x ∷ xs) [
  | true ↦ λ no. absurd (cc)
  | false ↦ λ rest. ap (λ l. x ∷ l) (none_passes t xs rest)
] fails

-- ---- one place after another

pub listed_from : {X : Type 0} (keys : List X) (order : List (Option ℕ)) (p : ℕ) (slot : Option ℕ) (o : Option X) → p < length order
    → get_or order p None ≡ slot → subject_at keys slot ≡ o → listed_in keys (drop p order) ≡ cons_option o (listed_in keys (drop (p + 1) order))
listed_from keys order p slot o within at is =
    let one : p + 1 ≡ suc p = omega arith in
    ap (listed_in keys) (dropped order p (get_or order p None) (slice_get-get_or order p None within))
    ∙ ap (λ s. cons_option (subject_at keys s) (listed_in keys (drop (suc p) order))) at
    ∙ ap (λ s. cons_option s (listed_in keys (drop (suc p) order))) is
    ∙ sym (ap (λ n. cons_option o (listed_in keys (drop n order))) one)
