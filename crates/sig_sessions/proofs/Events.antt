-- The events of a token, one after the other on all rows, come to what all of them make of each row.
use Rattle.std.proofs.Common.{◌≡◌, ◌∙◌, ap, sym, refl, List, [], ◌∷◌, ◌++◌, map, Bool, true, false, ◌||◌, ℕ, None, Some, if◌then◌else◌}
use Rattle.std.specs.Prelude.{Option}
use Rattle.std.specs.List.{list_any}
use Rattle.std.specs.Option.{option_to_list}
use Rattle.std.proofs.lemmas.List.{map-append}
use Rattle.std.proofs.lemmas.List.Folds.{list_any-append}
use Rattle.std.proofs.lemmas.Simd.{map-map}
use Rattle.sig_json.specs.Checks.{or_else}
use Rattle.sig_subject.specs.declared.subject.Subject.{Subject}
use Rattle.sig_subject.specs.Matching.{is_covering, is_identical}
use Rattle.sig_subject.proofs.Identity.{decides_identity}
use Rattle.sig_caep.specs.declared.kind.CaepKind.{CaepKind}
use Rattle.sig_caep.specs.declared.kind.CaepKind.TheVariants as caep
use Rattle.sig_event.specs.declared.event.Event.{Event}
use Rattle.sig_event.specs.declared.event.Event.TheVariants as event
use Rattle.sig_sessions.specs.declared.row.Row.{Row}
use Rattle.sig_sessions.specs.declared.state.State.{State}
use Rattle.sig_sessions.specs.declared.update.Update.{Update}
use Rattle.sig_sessions.specs.Effects.{has_effect, caep_has_effect, state_after, after_caep, level_after, told, told_by}
use Rattle.sig_sessions.specs.Table.{state_of, with_state, unseen, has_row, with_row, changed, changed_where_covered, after_event, after_events}
use Rattle.sig_sessions.specs.Changes.{updated_by}
use Rattle.sig_sessions.specs.Walks.{last_told, states_after, changed_by_all, changed_by_all_where_covered}

-- ---- events without effect

pub or_parts : (a b : Bool) → (a || b) ≡ false → (a ≡ false) × (b ≡ false)
or_parts true b h = cc
or_parts false b h = (refl, h)

same_caep : (k : CaepKind) (s : State) → caep_has_effect k ≡ false → after_caep k s ≡ s
same_caep caep.SessionRevoked s h = cc
same_caep (caep.TokenClaimsChange claims) s h = cc
same_caep (caep.CredentialChange credential change) s h = cc
same_caep (caep.AssuranceLevelChange namespace level direction) s h = cc
same_caep (caep.DeviceComplianceChange before after) s h = cc
same_caep (caep.SessionEstablished acr amr ext_id fp_ua) s h = cc
same_caep (caep.SessionPresented ext_id fp_ua) s h = cc
same_caep (caep.RiskLevelChange principal now before reason) s h = refl

same_state : (e : Event) (s : State) → has_effect e ≡ false → state_after e s ≡ s
same_state (event.Caep e) s h = same_caep e.kind s h
same_state (event.Risc e) s h = cc
same_state (event.Verification state) s h = refl
same_state (event.StreamUpdated status reason) s h = refl
same_state (event.Other uri) s h = refl

none_told : (k : CaepKind) (level : Option (List ℕ)) → caep_has_effect k ≡ false → or_else (told_by k) level ≡ level
none_told caep.SessionRevoked level h = cc
none_told (caep.TokenClaimsChange claims) level h = cc
none_told (caep.CredentialChange credential change) level h = cc
none_told (caep.AssuranceLevelChange namespace current direction) level h = cc
none_told (caep.DeviceComplianceChange before after) level h = cc
none_told (caep.SessionEstablished acr amr ext_id fp_ua) level h = cc
none_told (caep.SessionPresented ext_id fp_ua) level h = cc
none_told (caep.RiskLevelChange principal now before reason) level h = refl

same_level : (e : Event) (level : Option (List ℕ)) → has_effect e ≡ false → level_after e level ≡ level
same_level (event.Caep e) level h = none_told e.kind level h
same_level (event.Risc e) level h = cc
same_level (event.Verification state) level h = refl
same_level (event.StreamUpdated status reason) level h = refl
same_level (event.Other uri) level h = refl

unchanged : (e : Event) (r : Row) → has_effect e ≡ false → changed e r ≡ r
unchanged e r h =
    ap (λ s. with_state s (level_after e r.level) r) (same_state e (state_of r) h)
    ∙ ap (λ l. with_state (state_of r) l r) (same_level e r.level h)

unchanged_where : (s : Subject) (e : Event) (r : Row) → has_effect e ≡ false → changed_where_covered s e r ≡ r
unchanged_where s e r h =
    elim (is_covering s r.subject) as (λ b. (if b then changed e r else r) ≡ r) [
      | true ↦ unchanged e r h
      | false ↦ refl
    ]

-- ---- one row

pub or_else_joins : (a b c : Option (List ℕ)) → or_else (or_else a b) c ≡ or_else a (or_else b c)
or_else_joins None b c = refl
or_else_joins (Some x) b c = refl

changed_twice : (e : Event) (es : List Event) (r : Row) → changed_by_all es (changed e r) ≡ changed_by_all (e ∷ es) r
changed_twice e es r =
    ap (λ l. with_state (states_after es (state_after e (state_of r))) l r)
    (sym (or_else_joins (last_told es) (told e) r.level))

-- changes keep the subject
same_subject : (s : Subject) (e : Event) (r : Row) → (changed_where_covered s e r).subject ≡ r.subject
same_subject s e r =
    elim (is_covering s r.subject) as (λ b. (if b then changed e r else r).subject ≡ r.subject) [ true ↦ refl | false ↦ refl ]

twice_where : (s : Subject) (e : Event) (es : List Event) (r : Row)
    → changed_by_all_where_covered s es (changed_where_covered s e r) ≡ changed_by_all_where_covered s (e ∷ es) r
twice_where s e es r =
    ap (λ x. if is_covering s x then changed_by_all es (changed_where_covered s e r) else changed_where_covered s e r) (same_subject s e r)
    ∙ elim (is_covering s r.subject) as (λ b. (if b then changed_by_all es (if b then changed e r else r) else (if b then changed e r else r))
    ≡ (if b then changed_by_all (e ∷ es) r else r)) [
      | true ↦ changed_twice e es r
      | false ↦ refl
    ]

none_where : (s : Subject) (r : Row) → changed_by_all_where_covered s [] r ≡ r
none_where s r = elim (is_covering s r.subject) as (λ b. (if b then r else r) ≡ r) [ true ↦ refl | false ↦ refl ]

-- ---- all rows

map_alike : (f g : Row → Row) → ((r : Row) → f r ≡ g r) → (rows : List Row) → map f rows ≡ map g rows
map_alike f g alike [] = refl
map_alike f g alike (r ∷ rows) = ap (λ x. x ∷ map f rows) (alike r) ∙ ap (λ l. g r ∷ l) (map_alike f g alike rows)

map_none : (f : Row → Row) → ((r : Row) → f r ≡ r) → (rows : List Row) → map f rows ≡ rows
map_none f same [] = refl
map_none f same (r ∷ rows) = ap (λ x. x ∷ map f rows) (same r) ∙ ap (λ l. r ∷ l) (map_none f same rows)

kept_row : (s : Subject) (e : Event) (rows : List Row) → has_row s (map (changed_where_covered s e) rows) ≡ has_row s rows
kept_row s e [] = refl
kept_row s e (r ∷ rows) =
    ap (λ x. is_identical x s || has_row s (map (changed_where_covered s e) rows)) (same_subject s e r)
    ∙ ap (λ b. is_identical r.subject s || b) (kept_row s e rows)

own_row : (s : Subject) (rows : List Row) → has_row s (with_row s rows) ≡ true
own_row s rows = by (has_row s rows) refl
  where
    or_true : (b : Bool) → (b || true) ≡ true
    or_true true = refl
    or_true false = refl

    by : (b : Bool) → has_row s rows ≡ b → has_row s (if b then rows else rows ++ unseen s ∷ []) ≡ true
    by true is = is
    by false is =
        list_any-append (λ (r : Row). is_identical r.subject s) rows (unseen s ∷ [])
        ∙ ap (λ b. has_row s rows || (b || false)) ((decides_identity s s).1 refl)
        ∙ or_true (has_row s rows)

with_own_row : (s : Subject) (rows : List Row) → has_row s rows ≡ true → with_row s rows ≡ rows
with_own_row s rows is = ap (λ b. if b then rows else rows ++ unseen s ∷ []) is

-- where the subject has its row, an event changes the rows that it covers
after_one : (s : Subject) (rows : List Row) (e : Event) → has_row s rows ≡ true → after_event s rows e ≡ map (changed_where_covered s e) rows
after_one s rows e is = by (has_effect e) refl
  where
    by : (b : Bool) → has_effect e ≡ b → (if b then map (changed_where_covered s e) (with_row s rows) else rows) ≡ map (changed_where_covered s e) rows
    by true effect = ap (map (changed_where_covered s e)) (with_own_row s rows is)
    by false none = sym (map_none (changed_where_covered s e) (λ r. unchanged_where s e r none) rows)

after_all : (s : Subject) (es : List Event) (rows : List Row) → has_row s rows ≡ true → after_events s es rows ≡ map (changed_by_all_where_covered s es) rows
after_all s [] rows is = sym (map_none (changed_by_all_where_covered s []) (none_where s) rows)
after_all s (e ∷ es) rows is =
    ap (after_events s es) (after_one s rows e is)
    ∙ after_all s es (map (changed_where_covered s e) rows) (kept_row s e rows ∙ is)
    ∙ map-map (changed_by_all_where_covered s es) (changed_where_covered s e) rows
    ∙ map_alike (λ r. changed_by_all_where_covered s es (changed_where_covered s e r)) (changed_by_all_where_covered s (e ∷ es)) (twice_where s e es) rows

-- events without effect leave the rows
pub after_none : (s : Subject) (es : List Event) (rows : List Row) → list_any has_effect es ≡ false → after_events s es rows ≡ rows
after_none s [] rows none = refl
after_none s (e ∷ es) rows none =
    let parts = or_parts (has_effect e) (list_any has_effect es) none in
    ap (λ b. after_events s es (if b then map (changed_where_covered s e) (with_row s rows) else rows)) parts.0 ∙ after_none s es rows parts.1

-- the first event that has an effect adds the subject's row
with_row_first : (s : Subject) (es : List Event) (rows : List Row) → list_any has_effect es ≡ true → after_events s es rows ≡ after_events s es (with_row s rows)
with_row_first s [] rows some = cc
with_row_first s (e ∷ es) rows some =
    elim (has_effect e) as (λ b. (b || list_any has_effect es) ≡ true
    → after_events s es (if b then map (changed_where_covered s e) (with_row s rows) else rows)
    ≡ after_events s es (if b then map (changed_where_covered s e) (with_row s (with_row s rows)) else with_row s rows)) [
      | true ↦ λ some. ap (λ l. after_events s es (map (changed_where_covered s e) l)) (sym (with_own_row s (with_row s rows) (own_row s rows)))
      | false ↦ λ some. with_row_first s es rows some
    ] some

pub after_some : (s : Subject) (es : List Event) (rows : List Row) → list_any has_effect es ≡ true
    → after_events s es rows ≡ map (changed_by_all_where_covered s es) (with_row s rows)
after_some s es rows some = with_row_first s es rows some ∙ after_all s es (with_row s rows) (own_row s rows)

-- rows that are changed by their places, and the row that is added, are what the events make of the rows
pub made : (s : Subject) (es : List Event) (rows : List Row) (us : List Update) (added : Option Row)
    → list_any has_effect es ≡ true
    → updated_by us rows ≡ map (changed_by_all_where_covered s es) rows
    → added ≡ (if has_row s rows then None else Some (changed_by_all_where_covered s es (unseen s)))
    → updated_by us rows ++ option_to_list added ≡ after_events s es rows
made s es rows us added some changes adds =
    let f : Row → Row = changed_by_all_where_covered s es in
    ap (λ l. l ++ option_to_list added) changes
    ∙ ap (λ o. map f rows ++ option_to_list o) adds
    ∙ elim (has_row s rows) as (λ b. map f rows ++ option_to_list (if b then None else Some (f (unseen s)))
    ≡ map f (if b then rows else rows ++ unseen s ∷ [])) [
      | true ↦ append_none (map f rows)
      | false ↦ sym (map-append f rows (unseen s ∷ []))
    ]
    ∙ sym (after_some s es rows some)
  where
    append_none : (rows : List Row) → rows ++ [] ≡ rows
    append_none [] = refl
    append_none (r ∷ rows) = ap (λ l. r ∷ l) (append_none rows)
