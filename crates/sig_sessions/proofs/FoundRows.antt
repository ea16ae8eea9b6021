-- The rows that stand under a key are found there.
use Rattle.std.proofs.Common.{◌≡◌, ◌∙◌, ◌+◌, ◌⊎◌, inl, inr, ap, sym, ℕ, zero, suc, List, [], ◌∷◌, ◌++◌, true, nat_eq, length, Some, slice_get, append-nil, if◌then◌else◌, arith}
use Rattle.std.specs.List.{list_any}
use Rattle.std.proofs.lemmas.Cmp.{nat_eq_equiv}
use Rattle.std.proofs.lemmas.List.{append_assoc}
use Rattle.std.proofs.lemmas.List.Folds.{list_any-append}
use Rattle.sig_places.specs.declared.entry.Entry.{Entry}
use Rattle.sig_places.specs.Places.{place_under, places_of}
use Rattle.sig_subject.specs.declared.subject.Subject.{Subject}
use Rattle.sig_sessions.specs.declared.row.Row.{Row}
use Rattle.sig_sessions.specs.Keys.{entries_at, entries_from, has_key, keys_of}
use Rattle.sig_sessions.specs.Laws.{subjects_of}
use Rattle.sig_sessions.proofs.SharedKeys.{at_itself, or_left, or_right, or_true}

-- ---- entries and places

places_append : (k : ℕ) (xs ys : List Entry) → places_of k (xs ++ ys) ≡ places_of k ys ++ places_of k xs
places_append k [] ys = sym (append-nil (places_of k ys))
places_append k (x ∷ xs) ys = ap (λ l. l ++ place_under k x) (places_append k xs ys) ∙ append_assoc (places_of k ys) (places_of k xs) (place_under k x)

in_first : (q : ℕ) (xs ys : List ℕ) → list_any (nat_eq q) xs ≡ true → list_any (nat_eq q) (xs ++ ys) ≡ true
in_first q xs ys h = list_any-append (nat_eq q) xs ys ∙ or_left _ _ h

in_second : (q : ℕ) (xs ys : List ℕ) → list_any (nat_eq q) ys ≡ true → list_any (nat_eq q) (xs ++ ys) ≡ true
in_second q xs ys h = list_any-append (nat_eq q) xs ys ∙ or_right _ _ h

under_key : (n k x : ℕ) → nat_eq k x ≡ true → list_any (nat_eq n) (place_under k (record { key = x; place = n })) ≡ true
under_key n k x same =
    let is : nat_eq x k ≡ true = nat_eq_equiv.symm x k ∙ same in
    ap (λ b. list_any (nat_eq n) (if b then n ∷ [] else [])) is ∙ or_left _ _ (at_itself n)

at_place : (n k : ℕ) (keys : List ℕ) → has_key k keys ≡ true → list_any (nat_eq n) (places_of k (entries_at n keys)) ≡ true
at_place n k [] h = cc
at_place n k (x ∷ keys) h = by (or_true (nat_eq k x) (has_key k keys) h) (at_place n k keys)
  where
    by : (nat_eq k x ≡ true) ⊎ (has_key k keys ≡ true) → (has_key k keys ≡ true → list_any (nat_eq n) (places_of k (entries_at n keys)) ≡ true) → list_any (nat_eq n) (places_of k (entries_at n (x ∷ keys))) ≡ true
    by (inl same) more = in_second n (places_of k (entries_at n keys)) (place_under k (record { key = x; place = n })) (under_key n k x same)
    by (inr later) more = in_first n (places_of k (entries_at n keys)) (place_under k (record { key = x; place = n })) (more later)

none_there : (q : ℕ) (r : Row) {P : Type 0} → slice_get {X = Row} [] q ≡ Some r → P
none_there q r h = cc

-- a row is found under each of its keys
pub found_at : (rows : List Row) (n q : ℕ) (r : Row) (k : ℕ) → slice_get rows q ≡ Some r → has_key k (keys_of r.subject) ≡ true
    → list_any (nat_eq (n + q)) (places_of k (entries_from n (subjects_of rows))) ≡ true
found_at [] n q r k at has = none_there q r at
found_at (x ∷ rows) n zero r k at has =
    let same : x ≡ r = cc at in
    let here : list_any (nat_eq n) (places_of k (entries_at n (keys_of x.subject))) ≡ true =
    at_place n k (keys_of x.subject) (ap (λ (y : Row). has_key k (keys_of y.subject)) same ∙ has) in
    ap (λ m. list_any (nat_eq m) (places_of k (entries_from n (subjects_of (x ∷ rows))))) (omega arith)
    ∙ ap (list_any (nat_eq n)) (places_append k (entries_at n (keys_of x.subject)) (entries_from (suc n) (subjects_of rows)))
    ∙ in_second n (places_of k (entries_from (suc n) (subjects_of rows))) (places_of k (entries_at n (keys_of x.subject))) here
found_at (x ∷ rows) n (suc q) r k at has =
    let later : list_any (nat_eq (suc n + q)) (places_of k (entries_from (suc n) (subjects_of rows))) ≡ true = found_at rows (suc n) q r k at has in
    let sum : n + suc q ≡ suc n + q = omega arith in
    ap (λ m. list_any (nat_eq m) (places_of k (entries_from n (subjects_of (x ∷ rows))))) sum
    ∙ ap (list_any (nat_eq (suc n + q))) (places_append k (entries_at n (keys_of x.subject)) (entries_from (suc n) (subjects_of rows)))
    ∙ in_first (suc n + q) (places_of k (entries_from (suc n) (subjects_of rows))) (places_of k (entries_at n (keys_of x.subject))) later

-- a row is found under each of its keys, among all entries
pub found_first : (rows : List Row) (q : ℕ) (r : Row) (k : ℕ) → slice_get rows q ≡ Some r → has_key k (keys_of r.subject) ≡ true
    → list_any (nat_eq q) (places_of k (entries_from 0 (subjects_of rows))) ≡ true
found_first rows q r k at has = ap (λ m. list_any (nat_eq m) (places_of k (entries_from 0 (subjects_of rows)))) (omega arith) ∙ found_at rows 0 q r k at has

entries_append : (n : ℕ) (ss : List Subject) (s : Subject) (m : ℕ) → m ≡ n + length ss → entries_from n (ss ++ s ∷ []) ≡ entries_from n ss ++ entries_at m (keys_of s)
entries_append n [] s m is = append-nil (entries_at n (keys_of s)) ∙ ap (λ p. entries_at p (keys_of s)) (omega (arith, is))
entries_append n (x ∷ ss) s m is =
    ap (λ l. entries_at n (keys_of x) ++ l) (entries_append (suc n) ss s m (omega (arith, is)))
    ∙ sym (append_assoc (entries_at n (keys_of x)) (entries_from (suc n) ss) (entries_at m (keys_of s)))

-- the entries of rows with one more
pub entries_more : (ss : List Subject) (s : Subject) → entries_from 0 (ss ++ s ∷ []) ≡ entries_from 0 ss ++ entries_at (length ss) (keys_of s)
entries_more ss s = entries_append 0 ss s (length ss) (omega arith)
