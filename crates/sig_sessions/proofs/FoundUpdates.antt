-- Changes of the rows that were found, in any order and however often, change each row that the subject covers.
use Rattle.std.proofs.Common.{◌≡◌, ◌∙◌, ◌||◌, ◌⊎◌, inl, inr, ap, sym, subst, refl, ℕ, zero, suc, List, [], ◌∷◌, ◌++◌, Bool, true, false, nat_eq, length, map, Option, Some, None, slice_get, append-nil, if◌then◌else◌, arith}
use Rattle.std.specs.Prelude.{⊤}
use Rattle.std.specs.Cmp.{both_ways}
use Rattle.std.specs.List.{list_any}
use Rattle.std.specs.Option.{option_to_list}
use Rattle.std.proofs.lemmas.Bool.{eqb-false, eqb-true}
use Rattle.std.proofs.lemmas.List.{length-map, map-append}
use Rattle.std.proofs.lemmas.List.Folds.{list_any-append}
use Rattle.std.proofs.lemmas.Option.{slice_get_within}
use Rattle.sig_json.specs.Checks.{or_else}
use Rattle.sig_places.specs.declared.entry.Entry.{Entry}
use Rattle.sig_places.specs.Places.{places_of}
use Rattle.sig_subject.specs.declared.subject.Subject.{Subject}
use Rattle.sig_subject.specs.Matching.{is_covering, is_identical}
use Rattle.sig_subject.proofs.Identity.{decides_identity}
use Rattle.sig_event.specs.declared.event.Event.{Event}
use Rattle.sig_sessions.specs.declared.row.Row.{Row}
use Rattle.sig_sessions.specs.declared.update.Update.{Update}
use Rattle.sig_sessions.specs.Candidates.{known_at, known_under, updates_at, updates_under, with_own_at, with_update_at}
use Rattle.sig_sessions.specs.Changes.{ArePlaced, Changed, applied, entries_added, updated, updated_at, updated_by}
use Rattle.sig_sessions.specs.Keys.{AreCoveredKeys, entries_at, entries_from, keys_of}
use Rattle.sig_sessions.specs.Laws.{subjects_of}
use Rattle.sig_sessions.specs.Table.{has_row}
use Rattle.sig_sessions.specs.Walks.{changed_by_all, changed_by_all_where_covered, last_told, update_at}
use Rattle.sig_sessions.proofs.Rows.{all_updated_subjects}
use Rattle.sig_sessions.proofs.SharedKeys.{IsUnder, at_itself, found_under, or_left, or_right, or_true}
use Rattle.sig_sessions.proofs.FoundRows.{entries_more, found_first}
use Rattle.sig_sessions.proofs.Tallies.{IsAt, any_get, at_rows, of_rows, rows_at}

-- ---- each change is that of a covered row

-- a change is what the events make of the row at its place, which the subject covers
abbrev pub IsSound : Subject → List Event → List Row → Update → Type 0
IsSound s es rows u = (r : Row) × (slice_get rows u.place ≡ Some r) × (is_covering s r.subject ≡ true) × (u ≡ update_at u.place es r)

abbrev pub AreSound : Subject → List Event → List Row → List Update → Type 0
AreSound s es rows [] = ⊤
AreSound s es rows (u ∷ us) = IsSound s es rows u × AreSound s es rows us

sound_last : (s : Subject) (es : List Event) (rows : List Row) (us : List Update) (u : Update) → AreSound s es rows us → IsSound s es rows u → AreSound s es rows (us ++ u ∷ [])
sound_last s es rows [] u sound one = (one, tt)
sound_last s es rows (v ∷ us) u sound one = (sound.0, sound_last s es rows us u sound.1 one)

with_sound : (s : Subject) (es : List Event) (rows : List Row) (p : ℕ) (o : Option Row) (us : List Update) → slice_get rows p ≡ o → AreSound s es rows us
    → AreSound s es rows (with_update_at s es p o us)
with_sound s es rows p None us at sound = sound
with_sound s es rows p (Some r) us at sound = by (is_covering s r.subject) refl
  where
    by : (b : Bool) → is_covering s r.subject ≡ b → AreSound s es rows (if b then us ++ update_at p es r ∷ [] else us)
    by true covers = sound_last s es rows us (update_at p es r) sound (r, at, covers, refl)
    by false covers = sound

pub updates_sound : (s : Subject) (es : List Event) (rows : List Row) (ps : List ℕ) (us : List Update) → AreSound s es rows us → AreSound s es rows (updates_at s es rows ps us)
updates_sound s es rows [] us sound = sound
updates_sound s es rows (p ∷ ps) us sound =
    updates_sound s es rows ps (with_update_at s es p (slice_get rows p) us) (with_sound s es rows p (slice_get rows p) us refl sound)

pub sound_placed : (s : Subject) (es : List Event) (rows : List Row) (us : List Update) → AreSound s es rows us → ArePlaced (length rows) us
sound_placed s es rows [] sound = tt
sound_placed s es rows (u ∷ us) sound = (slice_get_within rows u.place sound.0.0 sound.0.1, sound_placed s es rows us sound.1)

-- ---- each covered row that was looked at has its change

-- whether the row at a place changes
abbrev pub has_place : ℕ → List Update → Bool
has_place q us = list_any (λ (u : Update). nat_eq u.place q) us

with_kept : (s : Subject) (es : List Event) (p : ℕ) (o : Option Row) (us : List Update) (q : ℕ) → has_place q us ≡ true → has_place q (with_update_at s es p o us) ≡ true
with_kept s es p None us q has = has
with_kept s es p (Some r) us q has =
    elim (is_covering s r.subject) as (λ b. has_place q (if b then us ++ update_at p es r ∷ [] else us) ≡ true) [
      | true ↦ list_any-append (λ (u : Update). nat_eq u.place q) us (update_at p es r ∷ []) ∙ or_left _ _ has
      | false ↦ has
    ]

pub updates_kept : (s : Subject) (es : List Event) (rows : List Row) (ps : List ℕ) (us : List Update) (q : ℕ) → has_place q us ≡ true → has_place q (updates_at s es rows ps us) ≡ true
updates_kept s es rows [] us q has = has
updates_kept s es rows (p ∷ ps) us q has =
    updates_kept s es rows ps (with_update_at s es p (slice_get rows p) us) q (with_kept s es p (slice_get rows p) us q has)

with_covered : (s : Subject) (es : List Event) (us : List Update) (q : ℕ) (r : Row) → is_covering s r.subject ≡ true → has_place q (with_update_at s es q (Some r) us) ≡ true
with_covered s es us q r covers =
    ap (λ b. has_place q (if b then us ++ update_at q es r ∷ [] else us)) covers
    ∙ list_any-append (λ (u : Update). nat_eq u.place q) us (update_at q es r ∷ []) ∙ or_right _ _ (or_left _ _ (at_itself q))

pub updates_found : (s : Subject) (es : List Event) (rows : List Row) (ps : List ℕ) (us : List Update) (q : ℕ) (r : Row) → list_any (nat_eq q) ps ≡ true
    → slice_get rows q ≡ Some r → is_covering s r.subject ≡ true → has_place q (updates_at s es rows ps us) ≡ true
updates_found s es rows [] us q r among at covers = cc
updates_found s es rows (p ∷ ps) us q r among at covers = by (or_true (nat_eq q p) (list_any (nat_eq q) ps) among)
    (λ later. updates_found s es rows ps (with_update_at s es p (slice_get rows p) us) q r later at covers)
  where
    by : (nat_eq q p ≡ true) ⊎ (list_any (nat_eq q) ps ≡ true)
        → (list_any (nat_eq q) ps ≡ true → has_place q (updates_at s es rows ps (with_update_at s es p (slice_get rows p) us)) ≡ true) → has_place q (updates_at s es rows ps (with_update_at s es p (slice_get rows p) us)) ≡ true
    by (inl same) more =
        let is : q ≡ p = eqb-true q p same in
        updates_kept s es rows ps (with_update_at s es p (slice_get rows p) us) q
        (subst (λ n. has_place q (with_update_at s es n (slice_get rows n) us) ≡ true) is
        (ap (λ o. has_place q (with_update_at s es q o us)) at ∙ with_covered s es us q r covers))
    by (inr later) more = more later

-- ---- the rows after the changes

some_same : (y z : Row) → Some y ≡ Some z → y ≡ z
some_same y z h = cc

get_updated : (rows : List Row) (p : ℕ) (u : Update) (r : Row) → slice_get rows p ≡ Some r → slice_get (updated_at p u rows) p ≡ Some (updated u r)
get_updated [] p u r at = cc
get_updated (x ∷ rows) zero u r at = ap (λ y. Some (updated u y)) (some_same x r at)
get_updated (x ∷ rows) (suc p) u r at = get_updated rows p u r at

get_other : (rows : List Row) (p q : ℕ) (u : Update) → (p ≡ q → ⊥) → slice_get (updated_at p u rows) q ≡ slice_get rows q
get_other [] p q u differ = refl
get_other (x ∷ rows) zero zero u differ = absurd (differ refl)
get_other (x ∷ rows) zero (suc q) u differ = refl
get_other (x ∷ rows) (suc p) zero u differ = refl
get_other (x ∷ rows) (suc p) (suc q) u differ = get_other rows p q u (λ e. differ (ap suc e))

or_else_twice : (a b : Option (List ℕ)) → or_else a (or_else a b) ≡ or_else a b
or_else_twice None b = refl
or_else_twice (Some x) b = refl

-- a change that comes again leaves the row as it is
updated_again : (es : List Event) (p : ℕ) (r x : Row) → (x ≡ r) ⊎ (x ≡ changed_by_all es r) → updated (update_at p es r) x ≡ changed_by_all es r
updated_again es p r x (inl same) = ap (updated (update_at p es r)) same
updated_again es p r x (inr again) =
    let twice = or_else_twice (last_told es) r.level in
    ap (updated (update_at p es r)) again
    ∙ (λ i. record { subject = (changed_by_all es r).subject; session = (changed_by_all es r).session; account = (changed_by_all es r).account; device = (changed_by_all es r).device; reset = (changed_by_all es r).reset; stale = (changed_by_all es r).stale; opt = (changed_by_all es r).opt; level = twice i })

pub after_updates : (s : Subject) (es : List Event) (rows : List Row) (us : List Update) (now : List Row) (q : ℕ) (r x : Row) → AreSound s es rows us → slice_get rows q ≡ Some r
    → slice_get now q ≡ Some x → (x ≡ r) ⊎ (x ≡ changed_by_all es r) → slice_get (updated_by us now) q ≡ Some (if has_place q us then changed_by_all es r else x)
after_updates s es rows [] now q r x sound at here was = here
after_updates s es rows (u ∷ us) now q r x sound at here was = by (nat_eq u.place q) refl (λ y. after_updates s es rows us (updated_at u.place u now) q r y sound.1 at)
  where
    by : (b : Bool) → nat_eq u.place q ≡ b
        → ((y : Row) → slice_get (updated_at u.place u now) q ≡ Some y → (y ≡ r) ⊎ (y ≡ changed_by_all es r)
        → slice_get (updated_by us (updated_at u.place u now)) q ≡ Some (if has_place q us then changed_by_all es r else y))
        → slice_get (updated_by us (updated_at u.place u now)) q ≡ Some (if b || has_place q us then changed_by_all es r else x)
    by true is more =
        let place : u.place ≡ q = eqb-true u.place q is in
        let same : sound.0.0 ≡ r = some_same sound.0.0 r (sym sound.0.1 ∙ ap (slice_get rows) place ∙ at) in
        let change : u ≡ update_at u.place es r = sound.0.3 ∙ ap (update_at u.place es) same in
        let new : slice_get (updated_at u.place u now) q ≡ Some (changed_by_all es r) =
        ap (λ n. slice_get (updated_at n u now) q) place ∙ get_updated now q u x here ∙ ap (λ v. Some (updated v x)) change ∙ ap Some (updated_again es u.place r x was) in
        more (changed_by_all es r) new (inr refl)
        ∙ elim (has_place q us) as (λ b. Some (if b then changed_by_all es r else changed_by_all es r) ≡ Some (changed_by_all es r)) [ true ↦ refl | false ↦ refl ]
    by false is more = more x (get_other now u.place q u (eqb-false u.place q is) ∙ here) was

same_lists : (xs ys : List Row) → length xs ≡ length ys → ((q : ℕ) (y : Row) → slice_get ys q ≡ Some y → slice_get xs q ≡ Some y) → xs ≡ ys
same_lists [] [] len each = refl
same_lists [] (y ∷ ys) len each = cc
same_lists (x ∷ xs) [] len each = cc
same_lists (x ∷ xs) (y ∷ ys) len each =
    ap (λ z. z ∷ xs) (some_same x y (each 0 y refl)) ∙ ap (λ l. y ∷ l) (same_lists xs ys (omega (arith, len)) (λ q z at. each (suc q) z at))

get_mapped : (f : Row → Row) (rows : List Row) (q : ℕ) (y : Row) → slice_get (map f rows) q ≡ Some y → (r : Row) × (slice_get rows q ≡ Some r) × (y ≡ f r)
get_mapped f [] q y at = cc
get_mapped f (x ∷ rows) zero y at = (x, refl, sym (some_same (f x) y at))
get_mapped f (x ∷ rows) (suc q) y at = get_mapped f rows q y at

updated_length : (us : List Update) (rows : List Row) → length (updated_by us rows) ≡ length rows
updated_length us rows =
    sym (length-map (updated_by us rows) (λ (r : Row). r.subject)) ∙ ap length (all_updated_subjects us rows) ∙ length-map rows (λ (r : Row). r.subject)

-- a change of the row at a place means that the subject covers it
covered_place : (s : Subject) (es : List Event) (rows : List Row) (vs : List Update) (q : ℕ) (r : Row) → AreSound s es rows vs → slice_get rows q ≡ Some r → has_place q vs ≡ true
    → is_covering s r.subject ≡ true
covered_place s es rows [] q r sound at has = cc
covered_place s es rows (v ∷ vs) q r sound at has = by (or_true (nat_eq v.place q) (has_place q vs) has) (covered_place s es rows vs q r sound.1 at)
  where
    by : (nat_eq v.place q ≡ true) ⊎ (has_place q vs ≡ true) → (has_place q vs ≡ true → is_covering s r.subject ≡ true) → is_covering s r.subject ≡ true
    by (inl is) more =
        let same : sound.0.0 ≡ r = some_same sound.0.0 r (sym sound.0.1 ∙ ap (slice_get rows) (eqb-true v.place q is) ∙ at) in
        ap (λ (y : Row). is_covering s y.subject) (sym same) ∙ sound.0.2
    by (inr later) more = more later

pick_same : (es : List Event) (r : Row) (has covers : Bool) → (has ≡ true → covers ≡ true) → (covers ≡ true → has ≡ true)
    → (if has then changed_by_all es r else r) ≡ (if covers then changed_by_all es r else r)
pick_same es r true true h k = refl
pick_same es r false false h k = refl
pick_same es r true false h k = let no = h refl in cc
pick_same es r false true h k = let no = k refl in cc

-- changes that are sound, one for each row that the subject covers
pub changes_all : (s : Subject) (es : List Event) (rows : List Row) (us : List Update) → AreSound s es rows us
    → ((q : ℕ) (r : Row) → slice_get rows q ≡ Some r → is_covering s r.subject ≡ true → has_place q us ≡ true)
    → updated_by us rows ≡ map (changed_by_all_where_covered s es) rows
changes_all s es rows us sound whole =
    same_lists (updated_by us rows) (map (changed_by_all_where_covered s es) rows)
    (updated_length us rows ∙ sym (length-map rows (changed_by_all_where_covered s es)))
    (λ q y at. at_row q y (get_mapped (changed_by_all_where_covered s es) rows q y at))
  where
    at_row : (q : ℕ) (y : Row) → (r : Row) × (slice_get rows q ≡ Some r) × (y ≡ changed_by_all_where_covered s es r) → slice_get (updated_by us rows) q ≡ Some y
    at_row q y (r, at, is) =
        after_updates s es rows us rows q r r sound at at (inl refl)
        ∙ ap Some (pick_same es r (has_place q us) (is_covering s r.subject) (covered_place s es rows us q r sound at) (whole q r at))
        ∙ ap Some (sym is)

-- ---- whether a row is the subject's own

or_assoc : (a b c : Bool) → (a || b) || c ≡ a || (b || c)
or_assoc true b c = refl
or_assoc false b c = refl

or_none : (a : Bool) → a || false ≡ a
or_none true = refl
or_none false = refl

pub known_rows : (s : Subject) (rows : List Row) (ps : List ℕ) (known : Bool) → known_at s rows ps known ≡ known || list_any (λ (r : Row). is_identical r.subject s) (rows_at rows ps)
known_rows s rows [] known = sym (or_none known)
known_rows s rows (p ∷ ps) known = known_rows s rows ps (with_own_at s (slice_get rows p) known) ∙ by (slice_get rows p)
    ∙ ap (λ b. known || b) (sym (list_any-append (λ (r : Row). is_identical r.subject s) (option_to_list (slice_get rows p)) (rows_at rows ps)))
  where
    by : (o : Option Row) → with_own_at s o known || list_any (λ (r : Row). is_identical r.subject s) (rows_at rows ps)
        ≡ known || (list_any (λ (r : Row). is_identical r.subject s) (option_to_list o) || list_any (λ (r : Row). is_identical r.subject s) (rows_at rows ps))
    by None = refl
    by (Some r) =
        or_assoc known (is_identical r.subject s) (list_any (λ (r : Row). is_identical r.subject s) (rows_at rows ps))
        ∙ ap (λ b. known || (b || list_any (λ (r : Row). is_identical r.subject s) (rows_at rows ps))) (sym (or_none (is_identical r.subject s)))

-- ---- all that is found under a subject's keys

-- the entries of rows
abbrev pub entries_of : List Row → List Entry
entries_of rows = entries_from 0 (subjects_of rows)

abbrev rows_second : List Row → Option ℕ → List Row
rows_second rows None = []
rows_second rows (Some k) = rows_at rows (places_of k (entries_of rows))

pub under_sound : (s : Subject) (es : List Event) (rows : List Row) (o : Option ℕ) (us : List Update) → AreSound s es rows us → AreSound s es rows (updates_under s es rows (entries_of rows) o us)
under_sound s es rows None us sound = sound
under_sound s es rows (Some k) us sound = updates_sound s es rows (places_of k (entries_of rows)) us sound

under_kept : (s : Subject) (es : List Event) (rows : List Row) (o : Option ℕ) (us : List Update) (q : ℕ) → has_place q us ≡ true → has_place q (updates_under s es rows (entries_of rows) o us) ≡ true
under_kept s es rows None us q has = has
under_kept s es rows (Some k) us q has = updates_kept s es rows (places_of k (entries_of rows)) us q has

-- the changes of all rows that are found
abbrev pub found_updates : Subject → List Event → List Row → ℕ × Option ℕ → List Update
found_updates s es rows keys = updates_under s es rows (entries_of rows) keys.1 (updates_at s es rows (places_of keys.0 (entries_of rows)) [])

pub found_sound : (s : Subject) (es : List Event) (rows : List Row) (keys : ℕ × Option ℕ) → AreSound s es rows (found_updates s es rows keys)
found_sound s es rows keys = under_sound s es rows keys.1 (updates_at s es rows (places_of keys.0 (entries_of rows)) []) (updates_sound s es rows (places_of keys.0 (entries_of rows)) [] tt)

found_whole : (s : Subject) (es : List Event) (rows : List Row) (keys : ℕ × Option ℕ) → AreCoveredKeys s keys → (q : ℕ) (r : Row) → slice_get rows q ≡ Some r
    → is_covering s r.subject ≡ true → has_place q (found_updates s es rows keys) ≡ true
found_whole s es rows keys are q r at covers = by (found_under s r.subject keys are (inl covers))
  where
    by : IsUnder keys r.subject → has_place q (found_updates s es rows keys) ≡ true
    by (inl has) =
        under_kept s es rows keys.1 (updates_at s es rows (places_of keys.0 (entries_of rows)) []) q
        (updates_found s es rows (places_of keys.0 (entries_of rows)) [] q r (found_first rows q r keys.0 at has) at covers)
    by (inr (k, is, has)) =
        ap (λ o. has_place q (updates_under s es rows (entries_of rows) o (updates_at s es rows (places_of keys.0 (entries_of rows)) []))) is
        ∙ updates_found s es rows (places_of k (entries_of rows)) (updates_at s es rows (places_of keys.0 (entries_of rows)) []) q r (found_first rows q r k at has) at covers

pub found_changes : (s : Subject) (es : List Event) (rows : List Row) (keys : ℕ × Option ℕ) → AreCoveredKeys s keys
    → updated_by (found_updates s es rows keys) rows ≡ map (changed_by_all_where_covered s es) rows
found_changes s es rows keys are = changes_all s es rows (found_updates s es rows keys) (found_sound s es rows keys) (found_whole s es rows keys are)

known_second : (s : Subject) (rows : List Row) (o : Option ℕ) (known : Bool)
    → known_under s rows (entries_of rows) o known ≡ known || list_any (λ (r : Row). is_identical r.subject s) (rows_second rows o)
known_second s rows None known = sym (or_none known)
known_second s rows (Some k) known = known_rows s rows (places_of k (entries_of rows)) known

of_second : (g : Row → Bool) (rows : List Row) (o : Option ℕ) → list_any g (rows_second rows o) ≡ true → list_any g rows ≡ true
of_second g rows None h = cc
of_second g rows (Some k) h = of_rows g rows (places_of k (entries_of rows)) h

-- whether one of the rows that are found is the subject's own
pub found_known : (s : Subject) (rows : List Row) (keys : ℕ × Option ℕ) → AreCoveredKeys s keys
    → known_under s rows (entries_of rows) keys.1 (known_at s rows (places_of keys.0 (entries_of rows)) false) ≡ has_row s rows
found_known s rows keys are =
    known_second s rows keys.1 (known_at s rows (places_of keys.0 (entries_of rows)) false)
    ∙ ap (λ b. b || list_any own (rows_second rows keys.1)) (known_rows s rows (places_of keys.0 (entries_of rows)) false)
    ∙ both_ways (list_any own (rows_at rows (places_of keys.0 (entries_of rows))) || list_any own (rows_second rows keys.1)) (has_row s rows)
    (λ h. onward (or_true (list_any own (rows_at rows (places_of keys.0 (entries_of rows)))) (list_any own (rows_second rows keys.1)) h))
    (λ h. back (any_get own rows h))
  where
    own : Row → Bool
    own r = is_identical r.subject s

    onward : (list_any own (rows_at rows (places_of keys.0 (entries_of rows))) ≡ true) ⊎ (list_any own (rows_second rows keys.1) ≡ true) → has_row s rows ≡ true
    onward (inl first) = of_rows own rows (places_of keys.0 (entries_of rows)) first
    onward (inr second) = of_second own rows keys.1 second

    back : IsAt own rows → list_any own (rows_at rows (places_of keys.0 (entries_of rows))) || list_any own (rows_second rows keys.1) ≡ true
    back at = by (found_under s at.1.subject keys are (inr ((decides_identity at.1.subject s).0 at.3)))
      where
        by : IsUnder keys at.1.subject → list_any own (rows_at rows (places_of keys.0 (entries_of rows))) || list_any own (rows_second rows keys.1) ≡ true
        by (inl has) = or_left _ _ (at_rows own rows (places_of keys.0 (entries_of rows)) at.0 at.1 (found_first rows at.0 at.1 keys.0 at.2 has) at.2 at.3)
        by (inr (k, is, has)) =
            or_right _ _ (ap (λ o. list_any own (rows_second rows o)) is ∙ at_rows own rows (places_of k (entries_of rows)) at.0 at.1 (found_first rows at.0 at.1 k at.2 has) at.2 at.3)

-- ---- the places after a change

pub indexed_applied : (change : Changed) (rows : List Row) (entries : List Entry) → entries ≡ entries_of rows
    → entries ++ entries_added (length rows) change.added ≡ entries_of (applied change rows)
indexed_applied change rows entries placed = by change.added
  where
    by : (added : Option Row) → entries ++ entries_added (length rows) added ≡ entries_of (updated_by change.updates rows ++ option_to_list added)
    by None =
        append-nil entries ∙ placed
        ∙ ap (entries_from 0) (sym (all_updated_subjects change.updates rows))
        ∙ ap entries_of (sym (append-nil (updated_by change.updates rows)))
    by (Some row) =
        ap (λ l. l ++ entries_at (length rows) (keys_of row.subject)) placed
        ∙ ap (λ n. entries_of rows ++ entries_at n (keys_of row.subject)) (sym (length-map rows (λ (r : Row). r.subject)))
        ∙ sym (entries_more (subjects_of rows) row.subject)
        ∙ ap (λ ss. entries_from 0 (ss ++ row.subject ∷ [])) (sym (all_updated_subjects change.updates rows))
        ∙ ap (entries_from 0) (sym (map-append (λ (r : Row). r.subject) (updated_by change.updates rows) (row ∷ [])))
