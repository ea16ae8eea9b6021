-- What claims leave of the rows.
use Rattle.std.proofs.Common.{◌≡◌, ◌∙◌, ap, sym, subst, refl, ℕ, zero, suc, List, [], ◌∷◌, ◌++◌, ◌≤◌, map, Bool, true, false, not, ◌&&◌, ◌||◌, Option, Some, None, IfSome, IsUtf8, if◌then◌else◌, append-nil}
use Rattle.std.specs.List.{All, list_any, slice_get}
use Rattle.std.specs.Option.{option_to_list}
use Rattle.std.specs.Prelude.{codes}
use Rattle.std.proofs.lemmas.List.{map-append}
use Rattle.std.proofs.lemmas.List.Elements.{All-nil, All-cons, All-append, All-head, All-tail}
use Rattle.std.proofs.lemmas.List.Folds.{list_any-append}
use Rattle.sig_json.specs.Checks.{or_else}
use Rattle.sig_json.specs.Members.{AllHave, AnyText, Words, required}
use Rattle.sig_json.proofs.CanonicalPayloads.{kept_canonical}
use Rattle.sig_json.proofs.Spelled.{spelled_depth, spelled_in_order}
use Rattle.sig_json.specs.Order.{InOrder}
use Rattle.serde_json.specs.Data.{Data, depth}
use Rattle.serde_json.specs.Read.{max_depth}
use Rattle.sig_subject.specs.declared.subject.Subject.{Subject}
use Rattle.sig_subject.specs.Matching.{is_covering, is_identical}
use Rattle.sig_subject.specs.Written.{IsProperSubject}
use Rattle.sig_subject.proofs.Identity.{decides_identity}
use Rattle.sig_caep.specs.Events.{kept_of, type_of}
use Rattle.sig_caep.specs.Table.{caep_table}
use Rattle.sig_caep.specs.declared.kind.CaepKind.{CaepKind}
use Rattle.sig_caep.specs.declared.kind.CaepKind.TheVariants as caep
use Rattle.sig_event.specs.declared.event.Event.{Event}
use Rattle.sig_event.specs.declared.event.Event.TheVariants as event
use Rattle.sig_event.specs.Events.{IsProperEvent}
use Rattle.sig_sessions.specs.declared.row.Row.{Row}
use Rattle.sig_sessions.specs.declared.update.Update.{Update}
use Rattle.sig_sessions.specs.Changes.{Changed, IsNew, applied, updated_at, updated_by}
use Rattle.sig_sessions.specs.Effects.{has_effect, told, told_by}
use Rattle.sig_sessions.specs.Laws.{IsProperRow, KeepsDistinct, KeepsPlaces, KeepsProper, LeavesUncovered, subjects_of}
use Rattle.sig_sessions.specs.Table.{are_distinct, effect, has_row, unseen, with_row}
use Rattle.sig_sessions.specs.Walks.{changed_by_all, changed_by_all_where_covered, last_told}
use Rattle.sig_sessions.proofs.Events.{after_none, after_some}

-- ---- rows that keep their subjects

subject_kept : (s : Subject) (es : List Event) (r : Row) → (changed_by_all_where_covered s es r).subject ≡ r.subject
subject_kept s es r =
    elim (is_covering s r.subject) as (λ b. (if b then changed_by_all es r else r).subject ≡ r.subject) [ true ↦ refl | false ↦ refl ]

subjects_kept : (f : Row → Row) → ((r : Row) → (f r).subject ≡ r.subject) → (rows : List Row) → subjects_of (map f rows) ≡ subjects_of rows
subjects_kept f same [] = refl
subjects_kept f same (r ∷ rows) = ap (λ s. s ∷ subjects_of (map f rows)) (same r) ∙ ap (λ l. r.subject ∷ l) (subjects_kept f same rows)

with_row_subjects : (s : Subject) (rows : List Row) → subjects_of (with_row s rows) ≡ subjects_of rows ++ (if not (has_row s rows) then s ∷ [] else [])
with_row_subjects s rows =
    elim (has_row s rows) as (λ b. subjects_of (if b then rows else rows ++ unseen s ∷ []) ≡ subjects_of rows ++ (if not b then s ∷ [] else [])) [
      | true ↦ sym (append-nil (subjects_of rows))
      | false ↦ map-append (λ (r : Row). r.subject) rows (unseen s ∷ [])
    ]

pub keeps_places : KeepsPlaces
keeps_places claims rows = by (list_any has_effect claims.events) refl
  where
    by : (b : Bool) → list_any has_effect claims.events ≡ b
        → subjects_of (effect claims rows) ≡ subjects_of rows ++ (if b && not (has_row claims.subject rows) then claims.subject ∷ [] else [])
    by true is =
        ap subjects_of (after_some claims.subject claims.events rows is)
        ∙ subjects_kept (changed_by_all_where_covered claims.subject claims.events) (subject_kept claims.subject claims.events) (with_row claims.subject rows)
        ∙ with_row_subjects claims.subject rows
    by false is = ap subjects_of (after_none claims.subject claims.events rows is) ∙ sym (append-nil (subjects_of rows))

-- ---- rows that stay

place_of_none : (place : ℕ) (r : Row) {P : Type 0} → slice_get {X = Row} [] place ≡ Some r → P
place_of_none place r h = cc

stays : (f : Row → Row) (rows more : List Row) (place : ℕ) (r : Row) → slice_get rows place ≡ Some r → f r ≡ r → slice_get (map f (rows ++ more)) place ≡ Some r
stays f [] more place r at same = place_of_none place r at
stays f (x ∷ xs) more zero r at same = let is : x ≡ r = cc at in ap (λ y. Some (f y)) is ∙ ap Some same
stays f (x ∷ xs) more (suc place) r at same = stays f xs more place r at same

stays_with_row : (f : Row → Row) (s : Subject) (rows : List Row) (place : ℕ) (r : Row) → slice_get rows place ≡ Some r → f r ≡ r
    → slice_get (map f (with_row s rows)) place ≡ Some r
stays_with_row f s rows place r at same =
    elim (has_row s rows) as (λ b. slice_get (map f (if b then rows else rows ++ unseen s ∷ [])) place ≡ Some r) [
      | true ↦ ap (λ l. slice_get (map f l) place) (sym (append-nil rows)) ∙ stays f rows [] place r at same
      | false ↦ stays f rows (unseen s ∷ []) place r at same
    ]

pub leaves_uncovered : LeavesUncovered
leaves_uncovered claims rows place r at uncovered = by (list_any has_effect claims.events) refl
  where
    same : changed_by_all_where_covered claims.subject claims.events r ≡ r
    same = ap (λ b. if b then changed_by_all claims.events r else r) uncovered

    by : (b : Bool) → list_any has_effect claims.events ≡ b → slice_get (effect claims rows) place ≡ Some r
    by true is =
        ap (λ l. slice_get l place) (after_some claims.subject claims.events rows is)
        ∙ stays_with_row (changed_by_all_where_covered claims.subject claims.events) claims.subject rows place r at same
    by false is = ap (λ l. slice_get l place) (after_none claims.subject claims.events rows is) ∙ at

-- ---- distinct subjects

-- whether subjects are distinct
each_once : List Subject → Bool
each_once [] = true
each_once (s ∷ ss) = not (list_any (λ x. is_identical x s) ss) && each_once ss

by_subjects : (rows : List Row) (s : Subject) → has_row s rows ≡ list_any (λ x. is_identical x s) (subjects_of rows)
by_subjects [] s = refl
by_subjects (r ∷ rows) s = ap (λ b. is_identical r.subject s || b) (by_subjects rows s)

once_by_subjects : (rows : List Row) → are_distinct rows ≡ each_once (subjects_of rows)
unfolding each_once
once_by_subjects [] = refl
once_by_subjects (r ∷ rows) =
    ap (λ b. not b && are_distinct rows) (by_subjects rows r.subject)
    ∙ ap (λ b. not (list_any (λ x. is_identical x r.subject) (subjects_of rows)) && b) (once_by_subjects rows)

-- rows of the same subjects are distinct alike
pub distinct_alike : (rows others : List Row) → subjects_of rows ≡ subjects_of others → are_distinct rows ≡ are_distinct others
distinct_alike rows others same = once_by_subjects rows ∙ ap each_once same ∙ sym (once_by_subjects others)

both_parts : (a b : Bool) → not a && b ≡ true → (a ≡ false) × (b ≡ true)
both_parts true b h = cc
both_parts false b h = (refl, h)

or_parts : (a b : Bool) → a || b ≡ false → (a ≡ false) × (b ≡ false)
or_parts true b h = cc
or_parts false b h = (refl, h)

identical_turned : (a b : Subject) → is_identical a b ≡ false → is_identical b a ≡ false
identical_turned a b none = by (is_identical b a) refl
  where
    by : (x : Bool) → is_identical b a ≡ x → is_identical b a ≡ false
    by true is = let same = (decides_identity a b).1 (sym ((decides_identity b a).0 is)) in cc
    by false is = is

-- one more row, of a subject that has none
pub distinct_more : (rows : List Row) (r : Row) → are_distinct rows ≡ true → has_row r.subject rows ≡ false → are_distinct (rows ++ r ∷ []) ≡ true
distinct_more [] r distinct new = refl
distinct_more (x ∷ xs) r distinct new =
    let parts = both_parts (has_row x.subject xs) (are_distinct xs) distinct in
    let apart = or_parts (is_identical x.subject r.subject) (has_row r.subject xs) new in
    let absent : has_row x.subject (xs ++ r ∷ []) ≡ false =
    list_any-append (λ (y : Row). is_identical y.subject x.subject) xs (r ∷ [])
    ∙ ap (λ b. b || (is_identical r.subject x.subject || false)) parts.0
    ∙ ap (λ b. b || false) (identical_turned x.subject r.subject apart.0) in
    ap (λ b. not b && are_distinct (xs ++ r ∷ [])) absent ∙ distinct_more xs r parts.1 apart.1

distinct_with_row : (s : Subject) (rows : List Row) → are_distinct rows ≡ true → are_distinct (with_row s rows) ≡ true
distinct_with_row s rows distinct = by (has_row s rows) refl
  where
    by : (b : Bool) → has_row s rows ≡ b → are_distinct (if b then rows else rows ++ unseen s ∷ []) ≡ true
    by true is = distinct
    by false new = distinct_more rows (unseen s) distinct new

pub keeps_distinct : KeepsDistinct
keeps_distinct claims rows distinct = by (list_any has_effect claims.events) refl
  where
    by : (b : Bool) → list_any has_effect claims.events ≡ b → are_distinct (effect claims rows) ≡ true
    by true is =
        ap are_distinct (after_some claims.subject claims.events rows is)
        ∙ distinct_alike (map (changed_by_all_where_covered claims.subject claims.events) (with_row claims.subject rows)) (with_row claims.subject rows)
        (subjects_kept (changed_by_all_where_covered claims.subject claims.events) (subject_kept claims.subject claims.events) (with_row claims.subject rows))
        ∙ distinct_with_row claims.subject rows distinct
    by false is = ap are_distinct (after_none claims.subject claims.events rows is) ∙ distinct

-- ---- a change that was made ready

updated_subjects : (place : ℕ) (u : Update) (rows : List Row) → subjects_of (updated_at place u rows) ≡ subjects_of rows
updated_subjects place u [] = refl
updated_subjects zero u (r ∷ rows) = refl
updated_subjects (suc place) u (r ∷ rows) = ap (λ l. r.subject ∷ l) (updated_subjects place u rows)

pub all_updated_subjects : (us : List Update) (rows : List Row) → subjects_of (updated_by us rows) ≡ subjects_of rows
all_updated_subjects [] rows = refl
all_updated_subjects (u ∷ us) rows = all_updated_subjects us (updated_at u.place u rows) ∙ updated_subjects u.place u rows

-- it leaves each subject one row
pub distinct_applied : (change : Changed) (rows : List Row) → IsNew rows change.added → are_distinct rows ≡ true → are_distinct (applied change rows) ≡ true
distinct_applied change rows new distinct = by change.added new
  where
    by : (added : Option Row) → IsNew rows added → are_distinct (updated_by change.updates rows ++ option_to_list added) ≡ true
    by None new =
        ap are_distinct (append-nil (updated_by change.updates rows))
        ∙ distinct_alike (updated_by change.updates rows) rows (all_updated_subjects change.updates rows) ∙ distinct
    by (Some row) new =
        distinct_more (updated_by change.updates rows) row
        (distinct_alike (updated_by change.updates rows) rows (all_updated_subjects change.updates rows) ∙ distinct)
        (by_subjects (updated_by change.updates rows) row.subject
        ∙ ap (list_any (λ x. is_identical x row.subject)) (all_updated_subjects change.updates rows)
        ∙ sym (by_subjects rows row.subject) ∙ new)

-- ---- proper rows

told_by_kind : (k : CaepKind) (v : Data) → InOrder v → depth v ≤ max_depth → AllHave v (caep_table (type_of k)).rules (kept_of k) → IfSome (told_by k) IsUtf8
told_by_kind caep.SessionRevoked v order deep h = tt
told_by_kind (caep.TokenClaimsChange claims) v order deep h = tt
told_by_kind (caep.CredentialChange credential change) v order deep h = tt
told_by_kind (caep.AssuranceLevelChange namespace level direction) v order deep h =
    kept_canonical v (required (codes "current_level") AnyText) (Words level) order deep h.1.0
told_by_kind (caep.DeviceComplianceChange before after) v order deep h = tt
told_by_kind (caep.SessionEstablished acr amr ext_id fp_ua) v order deep h = tt
told_by_kind (caep.SessionPresented ext_id fp_ua) v order deep h = tt
told_by_kind (caep.RiskLevelChange principal now before reason) v order deep h = tt

told_utf8 : (e : Event) (s : Subject) → IsProperEvent e s → IfSome (told e) IsUtf8
told_utf8 (event.Caep e) s h = told_by_kind e.kind h.0 (spelled_in_order _ h.0 h.1) (spelled_depth _ h.0 h.1) h.2.1.2.members
told_utf8 (event.Risc e) s h = tt
told_utf8 (event.Verification state) s h = tt
told_utf8 (event.StreamUpdated status reason) s h = tt
told_utf8 (event.Other uri) s h = tt

either_utf8 : (a b : Option (List ℕ)) → IfSome a IsUtf8 → IfSome b IsUtf8 → IfSome (or_else a b) IsUtf8
either_utf8 None b h k = k
either_utf8 (Some t) b h k = h

last_utf8 : (s : Subject) (es : List Event) → All (λ (e : Event). IsProperEvent e s) es → IfSome (last_told es) IsUtf8
last_utf8 s [] proper = tt
last_utf8 s (e ∷ es) proper =
    either_utf8 (last_told es) (told e) (last_utf8 s es (All-tail (λ (e : Event). IsProperEvent e s) e es proper))
    (told_utf8 e s (All-head (λ (e : Event). IsProperEvent e s) e es proper))

proper_changed : (s : Subject) (es : List Event) (r : Row) → All (λ (e : Event). IsProperEvent e s) es → IsProperRow r → IsProperRow (changed_by_all_where_covered s es r)
proper_changed s es r events proper =
    elim (is_covering s r.subject) as (λ b. IsProperRow (if b then changed_by_all es r else r)) [
      | true ↦ record { subject = proper.subject; level = either_utf8 (last_told es) r.level (last_utf8 s es events) proper.level }
      | false ↦ proper
    ]

proper_all : (s : Subject) (es : List Event) (rows : List Row) → All (λ (e : Event). IsProperEvent e s) es → All IsProperRow rows
    → All IsProperRow (map (changed_by_all_where_covered s es) rows)
proper_all s es [] events proper = All-nil IsProperRow
proper_all s es (r ∷ rows) events proper =
    All-cons IsProperRow (changed_by_all_where_covered s es r) (map (changed_by_all_where_covered s es) rows)
    (proper_changed s es r events (All-head IsProperRow r rows proper)) (proper_all s es rows events (All-tail IsProperRow r rows proper))

proper_with_row : (s : Subject) (rows : List Row) → IsProperSubject s → All IsProperRow rows → All IsProperRow (with_row s rows)
proper_with_row s rows subject proper =
    elim (has_row s rows) as (λ b. All IsProperRow (if b then rows else rows ++ unseen s ∷ [])) [
      | true ↦ proper
      | false ↦ All-append IsProperRow rows (unseen s ∷ []) proper (All-cons IsProperRow (unseen s) [] (record { subject = subject; level = tt }) (All-nil IsProperRow))
    ]

pub keeps_proper : KeepsProper
keeps_proper claims rows subject events proper = by (list_any has_effect claims.events) refl
  where
    by : (b : Bool) → list_any has_effect claims.events ≡ b → All IsProperRow (effect claims rows)
    by true is =
        subst (All IsProperRow) (sym (after_some claims.subject claims.events rows is))
        (proper_all claims.subject claims.events (with_row claims.subject rows) events (proper_with_row claims.subject rows subject proper))
    by false is = subst (All IsProperRow) (sym (after_none claims.subject claims.events rows is)) proper
