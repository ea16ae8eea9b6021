-- Places in order from which empty ones are taken.
use Rattle.std.proofs.Common.{◌≡◌, ◌≢◌, ◌∙◌, ap, sym, ℕ, zero, suc, ◌+◌, ◌<◌, ◌≤◌, List, [], ◌∷◌, ◌++◌, length, take, drop, append-nil, append_assoc, inl, inr, Option, Some, None, refl, arith}
use Rattle.std.specs.List.{slice_get}
use Rattle.std.specs.Map.{keys_of, values_of}
use Rattle.std.proofs.Math.ListN.{drop_of_length-le, set}
use Rattle.std.proofs.lemmas.Bool.{cases_lt}
use Rattle.std.proofs.lemmas.List.Elements.{filter_map-append}
use Rattle.std.proofs.lemmas.Option.{none-some, same_Some, slice_get_within}
use Rattle.indexmap.specs.IndexMap.{set_value_at}
use Rattle.sig_accounts.specs.Listing.{AreLinked, listed_in, subject_at}
use Rattle.std.proofs.lemmas.List.{length-set}
use Rattle.sig_accounts.proofs.ItemLemmas.{differ, drop_set, dropped, set_here, set_there, take_below, take_past, take_set, taken_more}

-- those before a place that were looked at are kept in front, and behind these are empty places
pub record IsClosing {X : Type 0} (old : List (X × ℕ)) (before : List (Option ℕ)) (es : List (X × ℕ)) (order : List (Option ℕ)) (kept read : ℕ) : Type 0 where
  pub keys : keys_of es ≡ keys_of old
  pub long : length order ≡ length before
  pub behind : kept ≤ read
  pub within : read ≤ length before
  pub linked : AreLinked (values_of es) order
  pub gap : (p : ℕ) → kept ≤ p → p < read → slice_get order p ≡ Some None
  pub listed : listed_in (keys_of old) (take kept order) ++ listed_in (keys_of old) (drop read order) ≡ listed_in (keys_of old) before

pub closing_first : {X : Type 0} (old : List (X × ℕ)) (before : List (Option ℕ)) → AreLinked (values_of old) before → IsClosing old before old before 0 0
closing_first old before linked = record {
  keys = refl;
  long = refl;
  behind = omega arith;
  within = omega arith;
  linked = linked;
  gap = λ p from to. absurd (omega (arith, from, to));
  listed = refl;
}

pub values_set : {X : Type 0} (es : List (X × ℕ)) (i p : ℕ) → values_of (set_value_at es i p) ≡ set (values_of es) i p
values_set [] i p = refl
values_set (e ∷ es) zero p = refl
values_set (e ∷ es) (suc i) p = ap (λ l. e.1 ∷ l) (values_set es i p)

-- a subject moves from one place to an empty one before it
linked_moved : (places : List ℕ) (order : List (Option ℕ)) (i from to : ℕ) → AreLinked places order → slice_get order from ≡ Some (Some i) → to ≤ from
    → ((p : ℕ) → to ≤ p → p < from → slice_get order p ≡ Some None) → AreLinked (set places i to) (set (set order from None) to (Some i))
linked_moved places order i from to linked at behind gap = λ j q. (there j q, back j q)
  where
    own : slice_get places i ≡ Some from
    own = (linked i from).1 at

    in_places : i < length places
    in_places = slice_get_within places i from own

    in_order : from < length order
    in_order = slice_get_within order from (Some i) at

    room : to < length (set order from None)
    room = omega (arith, in_order, behind, length-set order from None)

    moved : slice_get (set (set order from None) to (Some i)) to ≡ Some (Some i)
    moved = set_here (set order from None) to (Some i) room

    -- nobody else is there
    free : (j : ℕ) → i ≢ j → slice_get order to ≡ Some (Some j) → ⊥
    free j apart held = elim (cases_lt to from) [
      | inl before ↦ none-some j (same_Some _ _ (sym (gap to (omega arith) before) ∙ held))
      | inr same ↦
          let here : from ≡ to = omega (arith, same, behind) in
          apart (same_Some i j (same_Some _ _ (sym at ∙ ap (slice_get order) here ∙ held)))
    ]

    there_other : (j q : ℕ) → i ≢ j → slice_get order q ≡ Some (Some j) → slice_get (set (set order from None) to (Some i)) q ≡ Some (Some j)
    there_other j q apart held =
        set_there (set order from None) to q (Some i) (λ e. free j apart (ap (slice_get order) e ∙ held))
        ∙ set_there order from q None (λ e. apart (same_Some i j (same_Some _ _ (sym at ∙ ap (slice_get order) e ∙ held))))
        ∙ held

    there : (j q : ℕ) → slice_get (set places i to) j ≡ Some q → slice_get (set (set order from None) to (Some i)) q ≡ Some (Some j)
    there j q is = elim (differ i j) [
      | inl same ↦
          let place : to ≡ q = same_Some to q (sym (set_here places i to in_places) ∙ ap (slice_get (set places i to)) same ∙ is) in
          ap (slice_get (set (set order from None) to (Some i))) (sym place) ∙ moved ∙ ap (λ n. Some (Some n)) same
      | inr apart ↦ there_other j q apart ((linked j q).0 (sym (set_there places i j to apart) ∙ is))
    ]

    back_other : (j q : ℕ) → slice_get (set order from None) q ≡ Some (Some j) → slice_get (set places i to) j ≡ Some q
    back_other j q is = elim (differ from q) [
      | inl same ↦ absurd (none-some j (same_Some _ _ (sym (set_here order from None in_order) ∙ ap (slice_get (set order from None)) same ∙ is)))
      | inr apart ↦
          let held : slice_get places j ≡ Some q = (linked j q).1 (sym (set_there order from q None apart) ∙ is) in
          set_there places i j to (λ e. apart (same_Some from q (sym own ∙ ap (slice_get places) e ∙ held))) ∙ held
    ]

    back : (j q : ℕ) → slice_get (set (set order from None) to (Some i)) q ≡ Some (Some j) → slice_get (set places i to) j ≡ Some q
    back j q is = elim (differ to q) [
      | inl same ↦
          let index : i ≡ j = same_Some _ _ (same_Some _ _ (sym moved ∙ ap (slice_get (set (set order from None) to (Some i))) same ∙ is)) in
          ap (slice_get (set places i to)) (sym index) ∙ set_here places i to in_places ∙ ap Some same
      | inr apart ↦ back_other j q (sym (set_there (set order from None) to q (Some i) apart) ∙ is)
    ]

module _ {X : Type 0} {old : List (X × ℕ)} {before : List (Option ℕ)} {es : List (X × ℕ)} {order : List (Option ℕ)} {kept read : ℕ} where
  -- an empty place is passed over
  pub closing_empty : IsClosing old before es order kept read → slice_get order read ≡ Some None → IsClosing old before es order kept (read + 1)
  closing_empty c at =
      let inside : read < length order = slice_get_within order read None at in
      let one : read + 1 ≡ suc read = omega arith in
      record {
        keys = c.keys;
        long = c.long;
        behind = omega (arith, c.behind);
        within = omega (arith, inside, c.long);
        linked = c.linked;
        gap = λ p from to. elim (cases_lt p read) [
          | inl below ↦ c.gap p from below
          | inr past ↦ (let here : read ≡ p = omega (arith, past, to) in ap (slice_get order) (sym here) ∙ at)
        ];
        listed =
            ap (λ n. listed_in (keys_of old) (take kept order) ++ listed_in (keys_of old) (drop n order)) one
            ∙ sym (ap (λ l. listed_in (keys_of old) (take kept order) ++ listed_in (keys_of old) l) (dropped order read None at))
            ∙ c.listed;
      }

  -- a subject is moved to the first empty place
  pub closing_moved : (i : ℕ) (fs : List (X × ℕ)) → IsClosing old before es order kept read → slice_get order read ≡ Some (Some i) → fs ≡ set_value_at es i kept
      → keys_of fs ≡ keys_of es → IsClosing old before fs (set (set order read None) kept (Some i)) (kept + 1) (read + 1)
  closing_moved i fs c at is keys =
      let inside : read < length order = slice_get_within order read (Some i) at in
      let next : read + 1 ≡ suc read = omega arith in
      let more : kept + 1 ≡ suc kept = omega arith in
      let low : kept < length (set order read None) = omega (arith, inside, c.behind, length-set order read None) in
      let now : List (Option ℕ) = set (set order read None) kept (Some i) in
      let front : take (kept + 1) now ≡ take kept order ++ Some i ∷ [] =
      ap (λ n. take n now) more ∙ taken_more now kept (Some i) (set_here (set order read None) kept (Some i) low)
      ∙ ap (λ l. l ++ Some i ∷ []) (take_set (set order read None) kept kept (Some i) (omega arith) ∙ take_set order kept read None c.behind) in
      let back : drop (read + 1) now ≡ drop (suc read) order =
      drop_set (set order read None) (read + 1) kept (Some i) (omega (arith, c.behind)) ∙ drop_set order (read + 1) read None (omega arith)
      ∙ ap (λ n. drop n order) next in
      record {
        keys = keys ∙ c.keys;
        long = length-set (set order read None) kept (Some i) ∙ length-set order read None ∙ c.long;
        behind = omega (arith, c.behind);
        within = omega (arith, inside, c.long);
        linked = rw (is, values_set) (linked_moved (values_of es) order i read kept c.linked at c.behind c.gap);
        gap = λ p from to.
            set_there (set order read None) kept p (Some i) (λ e. (let no : ⊥ = omega (arith, e, from) in no))
            ∙ elim (cases_lt p read) [
              | inl below ↦
                  set_there order read p None (λ e. (let no : ⊥ = omega (arith, e, below) in no)) ∙ c.gap p (omega (arith, from)) below
              | inr past ↦
                  (let here : read ≡ p = omega (arith, past, to) in
                  ap (slice_get (set order read None)) (sym here) ∙ set_here order read None inside)
            ];
        listed =
            ap (λ l. listed_in (keys_of old) l ++ listed_in (keys_of old) (drop (read + 1) now)) front
            ∙ ap (λ l. listed_in (keys_of old) (take kept order ++ Some i ∷ []) ++ listed_in (keys_of old) l) back
            ∙ ap (λ l. l ++ listed_in (keys_of old) (drop (suc read) order)) (filter_map-append (subject_at (keys_of old)) (take kept order) (Some i ∷ []))
            ∙ append_assoc (listed_in (keys_of old) (take kept order)) (listed_in (keys_of old) (Some i ∷ [])) (listed_in (keys_of old) (drop (suc read) order))
            ∙ ap (λ l. listed_in (keys_of old) (take kept order) ++ l) (sym (filter_map-append (subject_at (keys_of old)) (Some i ∷ []) (drop (suc read) order)))
            ∙ sym (ap (λ l. listed_in (keys_of old) (take kept order) ++ listed_in (keys_of old) l) (dropped order read (Some i) at))
            ∙ c.listed;
      }

  -- all were looked at
  pub closing_linked : IsClosing old before es order kept read → length order ≤ read → AreLinked (values_of es) (take kept order)
  closing_linked c all = λ i p. (to i p, from i p)
    where
      to : (i p : ℕ) → slice_get (values_of es) i ≡ Some p → slice_get (take kept order) p ≡ Some (Some i)
      to i p is =
          let held : slice_get order p ≡ Some (Some i) = (c.linked i p).0 is in
          let within : p < length order = slice_get_within order p (Some i) held in
          elim (cases_lt p kept) [
            | inl below ↦ take_below order kept p below ∙ held
            | inr past ↦ absurd (none-some i (same_Some _ _ (sym (c.gap p past (omega (arith, within, all))) ∙ held)))
          ]

      from : (i p : ℕ) → slice_get (take kept order) p ≡ Some (Some i) → slice_get (values_of es) i ≡ Some p
      from i p is = elim (cases_lt p kept) [
        | inl below ↦ (c.linked i p).1 (sym (take_below order kept p below) ∙ is)
        | inr past ↦ absurd (none-some (Some i) (sym (take_past order kept p past) ∙ is))
      ]

  pub closing_listed : IsClosing old before es order kept read → length order ≤ read → listed_in (keys_of es) (take kept order) ≡ listed_in (keys_of old) before
  closing_listed c all =
      ap (λ k. listed_in k (take kept order)) c.keys
      ∙ sym (append-nil (listed_in (keys_of old) (take kept order)))
      ∙ sym (ap (λ l. listed_in (keys_of old) (take kept order) ++ listed_in (keys_of old) l) (drop_of_length-le order all))
      ∙ c.listed
