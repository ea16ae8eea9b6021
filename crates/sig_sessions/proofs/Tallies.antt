-- What the rows under a subject's keys say is what all rows say.
use Rattle.std.proofs.Common.{◌≡◌, ◌∙◌, ◌||◌, ◌&&◌, ◌⊎◌, inl, inr, ap, sym, subst, refl, ℕ, zero, suc, List, [], ◌∷◌, ◌++◌, Bool, true, false, not, nat_eq, Option, Some, None, is_some, filter, slice_get, if◌then◌else◌}
use Rattle.std.specs.Cmp.{both_ways}
use Rattle.std.specs.List.{list_any}
use Rattle.std.specs.Option.{option_to_list}
use Rattle.std.proofs.lemmas.Bool.{and_parts, eqb-true}
use Rattle.std.proofs.lemmas.List.Folds.{list_any-append}
use Rattle.sig_places.specs.declared.entry.Entry.{Entry}
use Rattle.sig_places.specs.Places.{places_of}
use Rattle.sig_subject.specs.declared.subject.Subject.{Subject}
use Rattle.sig_subject.specs.Matching.{is_covering, is_identical}
use Rattle.sig_subject.proofs.Identity.{decides_identity}
use Rattle.sig_sessions.specs.declared.row.Row.{Row}
use Rattle.sig_sessions.specs.declared.standing.Session.{Session}
use Rattle.sig_sessions.specs.declared.standing.Session.TheVariants as session
use Rattle.sig_sessions.specs.declared.tally.Tally.{Tally}
use Rattle.sig_sessions.specs.Candidates.{account_told, device_told, no_tally, noted, noted_at, session_told, tally_at, tally_under, verdict_told, verdict_with}
use Rattle.sig_sessions.specs.Keys.{covering_keys, entries_from, has_key}
use Rattle.sig_sessions.specs.Laws.{subjects_of}
use Rattle.sig_sessions.specs.Table.{are_distinct, has_row}
use Rattle.sig_sessions.specs.Verdicts.{covering, is_compliant, is_disabled, is_enabled, is_live, is_not_compliant, is_purged, is_revoked, row_of, session_by, verdict_of}
use Rattle.sig_sessions.proofs.FoundRows.{found_first}
use Rattle.sig_sessions.proofs.SharedKeys.{or_left, or_right, or_true, shares}

-- ---- rows at places

abbrev pub rows_at : List Row → List ℕ → List Row
rows_at rows [] = []
rows_at rows (p ∷ ps) = option_to_list (slice_get rows p) ++ rows_at rows ps

abbrev pub rows_under : List Row → List Entry → List ℕ → List Row
rows_under rows es [] = []
rows_under rows es (k ∷ ks) = rows_at rows (places_of k es) ++ rows_under rows es ks

none_there : (p : ℕ) (r : Row) {P : Type 0} → slice_get {X = Row} [] p ≡ Some r → P
none_there p r h = cc

get_any : (g : Row → Bool) (rows : List Row) (p : ℕ) (r : Row) → slice_get rows p ≡ Some r → g r ≡ true → list_any g rows ≡ true
get_any g [] p r at is = none_there p r at
get_any g (x ∷ rows) zero r at is = let same : x ≡ r = cc at in or_left _ _ (ap g same ∙ is)
get_any g (x ∷ rows) (suc p) r at is = or_right _ _ (get_any g rows p r at is)

abbrev pub IsAt : (Row → Bool) → List Row → Type 0
IsAt g rows = (p : ℕ) × (r : Row) × (slice_get rows p ≡ Some r) × (g r ≡ true)

pub any_get : (g : Row → Bool) (rows : List Row) → list_any g rows ≡ true → IsAt g rows
any_get g [] h = cc
any_get g (x ∷ rows) h = by (or_true (g x) (list_any g rows) h) (any_get g rows)
  where
    by : (g x ≡ true) ⊎ (list_any g rows ≡ true) → (list_any g rows ≡ true → IsAt g rows) → IsAt g (x ∷ rows)
    by (inl is) more = (0, x, refl, is)
    by (inr later) more = let found = more later in (suc found.0, found.1, found.2, found.3)

pub at_rows : (g : Row → Bool) (rows : List Row) (ps : List ℕ) (q : ℕ) (r : Row) → list_any (nat_eq q) ps ≡ true → slice_get rows q ≡ Some r → g r ≡ true
    → list_any g (rows_at rows ps) ≡ true
at_rows g rows [] q r among at is = cc
at_rows g rows (p ∷ ps) q r among at is = list_any-append g (option_to_list (slice_get rows p)) (rows_at rows ps) ∙ by (or_true (nat_eq q p) (list_any (nat_eq q) ps) among) (λ later. at_rows g rows ps q r later at is)
  where
    by : (nat_eq q p ≡ true) ⊎ (list_any (nat_eq q) ps ≡ true) → (list_any (nat_eq q) ps ≡ true → list_any g (rows_at rows ps) ≡ true) → list_any g (option_to_list (slice_get rows p)) || list_any g (rows_at rows ps) ≡ true
    by (inl same) more =
        let here : slice_get rows p ≡ Some r = ap (slice_get rows) (sym (eqb-true q p same)) ∙ at in
        or_left _ _ (ap (λ o. list_any g (option_to_list o)) here ∙ or_left _ _ is)
    by (inr later) more = or_right _ _ (more later)

pub of_rows : (g : Row → Bool) (rows : List Row) (ps : List ℕ) → list_any g (rows_at rows ps) ≡ true → list_any g rows ≡ true
of_rows g rows [] h = cc
of_rows g rows (p ∷ ps) h =
    by (slice_get rows p) refl (or_true (list_any g (option_to_list (slice_get rows p))) (list_any g (rows_at rows ps)) (sym (list_any-append g (option_to_list (slice_get rows p)) (rows_at rows ps)) ∙ h)) (of_rows g rows ps)
  where
    by : (o : Option Row) → slice_get rows p ≡ o → (list_any g (option_to_list (slice_get rows p)) ≡ true) ⊎ (list_any g (rows_at rows ps) ≡ true)
        → (list_any g (rows_at rows ps) ≡ true → list_any g rows ≡ true) → list_any g rows ≡ true
    by o at (inr later) more = more later
    by None at (inl one) more = let none : list_any g (option_to_list (slice_get rows p)) ≡ false = ap (λ o. list_any g (option_to_list o)) at in cc
    by (Some r) at (inl one) more = by_test (g r) refl (sym (ap (λ o. list_any g (option_to_list o)) at) ∙ one)
      where
        by_test : (b : Bool) → g r ≡ b → g r || false ≡ true → list_any g rows ≡ true
        by_test true is h = get_any g rows p r at is
        by_test false is h = let no : g r || false ≡ false = ap (λ b. b || false) is in cc

under_rows : (g : Row → Bool) (rows : List Row) (es : List Entry) (ks : List ℕ) (k q : ℕ) (r : Row) → has_key k ks ≡ true → list_any (nat_eq q) (places_of k es) ≡ true
    → slice_get rows q ≡ Some r → g r ≡ true → list_any g (rows_under rows es ks) ≡ true
under_rows g rows es [] k q r has among at is = cc
under_rows g rows es (j ∷ ks) k q r has among at is =
    list_any-append g (rows_at rows (places_of j es)) (rows_under rows es ks) ∙ by (or_true (nat_eq k j) (has_key k ks) has) (λ later. under_rows g rows es ks k q r later among at is)
  where
    by : (nat_eq k j ≡ true) ⊎ (has_key k ks ≡ true) → (has_key k ks ≡ true → list_any g (rows_under rows es ks) ≡ true) → list_any g (rows_at rows (places_of j es)) || list_any g (rows_under rows es ks) ≡ true
    by (inl same) more = or_left _ _ (at_rows g rows (places_of j es) q r (ap (λ i. list_any (nat_eq q) (places_of i es)) (sym (eqb-true k j same)) ∙ among) at is)
    by (inr later) more = or_right _ _ (more later)

of_under : (g : Row → Bool) (rows : List Row) (es : List Entry) (ks : List ℕ) → list_any g (rows_under rows es ks) ≡ true → list_any g rows ≡ true
of_under g rows es [] h = cc
of_under g rows es (k ∷ ks) h =
    by (or_true (list_any g (rows_at rows (places_of k es))) (list_any g (rows_under rows es ks)) (sym (list_any-append g (rows_at rows (places_of k es)) (rows_under rows es ks)) ∙ h)) (of_under g rows es ks)
  where
    by : (list_any g (rows_at rows (places_of k es)) ≡ true) ⊎ (list_any g (rows_under rows es ks) ≡ true)
        → (list_any g (rows_under rows es ks) ≡ true → list_any g rows ≡ true) → list_any g rows ≡ true
    by (inl one) more = of_rows g rows (places_of k es) one
    by (inr later) more = more later

-- what holds of a row that covers the subject, or of its own, is found
any_found : (g : Row → Bool) (rows : List Row) (s : Subject) → ((r : Row) → g r ≡ true → (is_covering r.subject s ≡ true) ⊎ (r.subject ≡ s))
    → list_any g (rows_under rows (entries_from 0 (subjects_of rows)) (covering_keys s)) ≡ list_any g rows
any_found g rows s counts =
    both_ways (list_any g (rows_under rows (entries_from 0 (subjects_of rows)) (covering_keys s))) (list_any g rows)
    (of_under g rows (entries_from 0 (subjects_of rows)) (covering_keys s))
    (λ h. there (any_get g rows h))
  where
    there : IsAt g rows → list_any g (rows_under rows (entries_from 0 (subjects_of rows)) (covering_keys s)) ≡ true
    there at =
        let r : Row = at.1 in
        let key = shares r.subject s (counts r at.3) in
        under_rows g rows (entries_from 0 (subjects_of rows)) (covering_keys s) key.0 at.0 r key.1 (found_first rows at.0 r key.0 at.2 key.2) at.2 at.3

-- ---- a tally's flags

or_assoc : (a b c : Bool) → (a || b) || c ≡ a || (b || c)
or_assoc true b c = refl
or_assoc false b c = refl

or_none : (a : Bool) → a || false ≡ a
or_none true = refl
or_none false = refl

-- a flag that each row raises by its test
abbrev pub IsRaised : Subject → (Tally → Bool) → (Row → Bool) → Type 0
IsRaised s flag g = (r : Row) (t : Tally) → flag (noted s r t) ≡ flag t || g r

raised_at : (s : Subject) (flag : Tally → Bool) (g : Row → Bool) → IsRaised s flag g → (rows : List Row) (ps : List ℕ) (t : Tally)
    → flag (tally_at s rows ps t) ≡ flag t || list_any g (rows_at rows ps)
raised_at s flag g raised rows [] t = sym (or_none (flag t))
raised_at s flag g raised rows (p ∷ ps) t =
    raised_at s flag g raised rows ps (noted_at s (slice_get rows p) t) ∙ by (slice_get rows p)
    ∙ ap (λ b. flag t || b) (sym (list_any-append g (option_to_list (slice_get rows p)) (rows_at rows ps)))
  where
    by : (o : Option Row) → flag (noted_at s o t) || list_any g (rows_at rows ps) ≡ flag t || (list_any g (option_to_list o) || list_any g (rows_at rows ps))
    by None = refl
    by (Some r) =
        ap (λ b. b || list_any g (rows_at rows ps)) (raised r t) ∙ or_assoc (flag t) (g r) (list_any g (rows_at rows ps))
        ∙ ap (λ b. flag t || (b || list_any g (rows_at rows ps))) (sym (or_none (g r)))

raised_under : (s : Subject) (flag : Tally → Bool) (g : Row → Bool) → IsRaised s flag g → (rows : List Row) (es : List Entry) (ks : List ℕ) (t : Tally)
    → flag (tally_under s rows es ks t) ≡ flag t || list_any g (rows_under rows es ks)
raised_under s flag g raised rows es [] t = sym (or_none (flag t))
raised_under s flag g raised rows es (k ∷ ks) t =
    raised_under s flag g raised rows es ks (tally_at s rows (places_of k es) t)
    ∙ ap (λ b. b || list_any g (rows_under rows es ks)) (raised_at s flag g raised rows (places_of k es) t)
    ∙ or_assoc (flag t) (list_any g (rows_at rows (places_of k es))) (list_any g (rows_under rows es ks))
    ∙ ap (λ b. flag t || b) (sym (list_any-append g (rows_at rows (places_of k es)) (rows_under rows es ks)))

-- the tally of all that is found
abbrev pub found_tally : Subject → List Row → Tally
found_tally s rows = tally_under s rows (entries_from 0 (subjects_of rows)) (covering_keys s) no_tally

own_counts : (s : Subject) (mark : Row → Bool) (r : Row) → is_identical r.subject s && mark r ≡ true → (is_covering r.subject s ≡ true) ⊎ (r.subject ≡ s)
own_counts s mark r h = inr ((decides_identity r.subject s).0 (and_parts (is_identical r.subject s) (mark r) h).0)

any_filtered : (p g : Row → Bool) (rows : List Row) → list_any g (filter p rows) ≡ list_any (λ r. p r && g r) rows
any_filtered p g [] = refl
any_filtered p g (r ∷ rows) = by (p r) (any_filtered p g rows)
  where
    by : (b : Bool) → list_any g (filter p rows) ≡ list_any (λ r. p r && g r) rows
        → list_any g (if b then r ∷ filter p rows else filter p rows) ≡ (b && g r) || list_any (λ r. p r && g r) rows
    by true more = ap (λ b. g r || b) more
    by false more = more

-- a flag of its own row
own_flag : (s : Subject) (rows : List Row) (flag : Tally → Bool) (mark : Row → Bool) → IsRaised s flag (λ r. is_identical r.subject s && mark r) → flag no_tally ≡ false
    → flag (found_tally s rows) ≡ list_any (λ r. is_identical r.subject s && mark r) rows
own_flag s rows flag mark raised none =
    raised_under s flag (λ r. is_identical r.subject s && mark r) raised rows (entries_from 0 (subjects_of rows)) (covering_keys s) no_tally
    ∙ ap (λ b. b || list_any (λ r. is_identical r.subject s && mark r) (rows_under rows (entries_from 0 (subjects_of rows)) (covering_keys s))) none
    ∙ any_found (λ r. is_identical r.subject s && mark r) rows s (own_counts s mark)

-- a flag of the rows that cover it
covering_flag : (s : Subject) (rows : List Row) (flag : Tally → Bool) (mark : Row → Bool) → IsRaised s flag (λ r. is_covering r.subject s && mark r) → flag no_tally ≡ false
    → flag (found_tally s rows) ≡ list_any mark (covering s rows)
covering_flag s rows flag mark raised none =
    raised_under s flag (λ r. is_covering r.subject s && mark r) raised rows (entries_from 0 (subjects_of rows)) (covering_keys s) no_tally
    ∙ ap (λ b. b || list_any (λ r. is_covering r.subject s && mark r) (rows_under rows (entries_from 0 (subjects_of rows)) (covering_keys s))) none
    ∙ any_found (λ r. is_covering r.subject s && mark r) rows s (λ r h. inl (and_parts (is_covering r.subject s) (mark r) h).0)
    ∙ sym (any_filtered (λ r. is_covering r.subject s) mark rows)

-- ---- its own row

known_found : (s : Subject) (rows : List Row) → list_any (λ (r : Row). is_identical r.subject s) rows ≡ is_some (row_of s rows)
known_found s [] = refl
known_found s (r ∷ rows) = by (is_identical r.subject s) (known_found s rows)
  where
    by : (b : Bool) → list_any (λ (r : Row). is_identical r.subject s) rows ≡ is_some (row_of s rows)
        → b || list_any (λ (r : Row). is_identical r.subject s) rows ≡ is_some (if b then Some r else row_of s rows)
    by true more = refl
    by false more = more

no_other : (s : Subject) (mark : Row → Bool) (rows : List Row) → has_row s rows ≡ false → list_any (λ (r : Row). is_identical r.subject s && mark r) rows ≡ false
no_other s mark [] none = refl
no_other s mark (r ∷ rows) none = by (is_identical r.subject s) refl (no_other s mark rows)
  where
    by : (b : Bool) → is_identical r.subject s ≡ b → (has_row s rows ≡ false → list_any (λ (r : Row). is_identical r.subject s && mark r) rows ≡ false)
        → (is_identical r.subject s && mark r) || list_any (λ (r : Row). is_identical r.subject s && mark r) rows ≡ false
    by true is more = let some : has_row s (r ∷ rows) ≡ true = or_left _ _ is in cc
    by false is more =
        ap (λ b. (b && mark r) || list_any (λ (r : Row). is_identical r.subject s && mark r) rows) is
        ∙ more (ap (λ b. b || has_row s rows) (sym is) ∙ none)

distinct_parts : (a b : Bool) → not a && b ≡ true → (a ≡ false) × (b ≡ true)
distinct_parts true b h = cc
distinct_parts false b h = (refl, h)

-- of distinct rows one alone is the subject's own
own_mark : (s : Subject) (mark : Row → Bool) (rows : List Row) (r : Row) → are_distinct rows ≡ true → row_of s rows ≡ Some r
    → list_any (λ (r : Row). is_identical r.subject s && mark r) rows ≡ mark r
own_mark s mark [] r distinct own = cc
own_mark s mark (x ∷ rows) r distinct own = by (is_identical x.subject s) refl (distinct_parts (has_row x.subject rows) (are_distinct rows) distinct) (own_mark s mark rows r)
  where
    some_same : (y z : Row) → Some y ≡ Some z → y ≡ z
    some_same y z h = cc

    by : (b : Bool) → is_identical x.subject s ≡ b → (has_row x.subject rows ≡ false) × (are_distinct rows ≡ true)
        → (are_distinct rows ≡ true → row_of s rows ≡ Some r → list_any (λ (r : Row). is_identical r.subject s && mark r) rows ≡ mark r)
        → (is_identical x.subject s && mark x) || list_any (λ (r : Row). is_identical r.subject s && mark r) rows ≡ mark r
    by true is apart more =
        let same : x ≡ r = some_same x r (ap (λ b. if b then Some x else row_of s rows) (sym is) ∙ own) in
        let none : has_row s rows ≡ false = subst (λ y. has_row y rows ≡ false) ((decides_identity x.subject s).0 is) apart.0 in
        ap (λ b. (b && mark x) || list_any (λ (r : Row). is_identical r.subject s && mark r) rows) is
        ∙ ap (λ b. mark x || b) (no_other s mark rows none) ∙ or_none (mark x) ∙ ap mark same
    by false is apart more =
        ap (λ b. (b && mark x) || list_any (λ (r : Row). is_identical r.subject s && mark r) rows) is
        ∙ more apart.1 (ap (λ b. if b then Some x else row_of s rows) (sym is) ∙ own)

session_back : (x : Session) → session_told (is_revoked x) (is_live x) ≡ x
session_back session.Unseen = refl
session_back session.Live = refl
session_back session.Revoked = refl

own_session : (s : Subject) (rows : List Row) → are_distinct rows ≡ true
    → (if is_some (row_of s rows)
    then session_told (list_any (λ (r : Row). is_identical r.subject s && is_revoked r.session) rows) (list_any (λ (r : Row). is_identical r.subject s && is_live r.session) rows)
    else session_told (list_any (λ (r : Row). is_revoked r.session) (covering s rows)) (list_any (λ (r : Row). is_live r.session) (covering s rows)))
    ≡ session_by (row_of s rows) (covering s rows)
own_session s rows distinct = by (row_of s rows) refl
  where
    by : (o : Option Row) → row_of s rows ≡ o
        → (if is_some o
        then session_told (list_any (λ (r : Row). is_identical r.subject s && is_revoked r.session) rows) (list_any (λ (r : Row). is_identical r.subject s && is_live r.session) rows)
        else session_told (list_any (λ (r : Row). is_revoked r.session) (covering s rows)) (list_any (λ (r : Row). is_live r.session) (covering s rows)))
        ≡ session_by o (covering s rows)
    by None own = refl
    by (Some r) own =
        ap (λ b. session_told b (list_any (λ (r : Row). is_identical r.subject s && is_live r.session) rows)) (own_mark s (λ (r : Row). is_revoked r.session) rows r distinct own)
        ∙ ap (λ b. session_told (is_revoked r.session) b) (own_mark s (λ (r : Row). is_live r.session) rows r distinct own)
        ∙ session_back r.session

-- ---- the verdict

and_true : (a : Bool) → a && true ≡ a
and_true true = refl
and_true false = refl

known_raised : (s : Subject) → IsRaised s (λ t. t.known) (λ r. is_identical r.subject s && true)
known_raised s r t = ap (λ b. t.known || b) (sym (and_true (is_identical r.subject s)))

any_true : (g : Row → Bool) (rows : List Row) → list_any (λ r. g r && true) rows ≡ list_any g rows
any_true g [] = refl
any_true g (r ∷ rows) = ap (λ b. b || list_any (λ r. g r && true) rows) (and_true (g r)) ∙ ap (λ b. g r || b) (any_true g rows)

pub tells_all : (s : Subject) (rows : List Row) → are_distinct rows ≡ true → verdict_told (found_tally s rows) ≡ verdict_of rows s
tells_all s rows distinct =
    let t : Tally = found_tally s rows in
    let known : t.known ≡ is_some (row_of s rows) =
    own_flag s rows (λ t. t.known) (λ r. true) (known_raised s) refl ∙ any_true (λ (r : Row). is_identical r.subject s) rows ∙ known_found s rows in
    let own_live : t.own_live ≡ list_any (λ (r : Row). is_identical r.subject s && is_live r.session) rows =
    own_flag s rows (λ t. t.own_live) (λ (r : Row). is_live r.session) (λ r t. refl) refl in
    let own_revoked : t.own_revoked ≡ list_any (λ (r : Row). is_identical r.subject s && is_revoked r.session) rows =
    own_flag s rows (λ t. t.own_revoked) (λ (r : Row). is_revoked r.session) (λ r t. refl) refl in
    let live : t.live ≡ list_any (λ (r : Row). is_live r.session) (covering s rows) = covering_flag s rows (λ t. t.live) (λ (r : Row). is_live r.session) (λ r t. refl) refl in
    let revoked : t.revoked ≡ list_any (λ (r : Row). is_revoked r.session) (covering s rows) = covering_flag s rows (λ t. t.revoked) (λ (r : Row). is_revoked r.session) (λ r t. refl) refl in
    let enabled : t.enabled ≡ list_any (λ (r : Row). is_enabled r.account) (covering s rows) = covering_flag s rows (λ t. t.enabled) (λ (r : Row). is_enabled r.account) (λ r t. refl) refl in
    let disabled : t.disabled ≡ list_any (λ (r : Row). is_disabled r.account) (covering s rows) = covering_flag s rows (λ t. t.disabled) (λ (r : Row). is_disabled r.account) (λ r t. refl) refl in
    let purged : t.purged ≡ list_any (λ (r : Row). is_purged r.account) (covering s rows) = covering_flag s rows (λ t. t.purged) (λ (r : Row). is_purged r.account) (λ r t. refl) refl in
    let compliant : t.compliant ≡ list_any (λ (r : Row). is_compliant r.device) (covering s rows) = covering_flag s rows (λ t. t.compliant) (λ (r : Row). is_compliant r.device) (λ r t. refl) refl in
    let not_compliant : t.not_compliant ≡ list_any (λ (r : Row). is_not_compliant r.device) (covering s rows) =
    covering_flag s rows (λ t. t.not_compliant) (λ (r : Row). is_not_compliant r.device) (λ r t. refl) refl in
    let reset : t.reset ≡ list_any (λ (r : Row). r.reset) (covering s rows) = covering_flag s rows (λ t. t.reset) (λ (r : Row). r.reset) (λ r t. refl) refl in
    let whole : (if t.known then session_told t.own_revoked t.own_live else session_told t.revoked t.live) ≡ session_by (row_of s rows) (covering s rows) =
    (λ i. if known i then session_told (own_revoked i) (own_live i) else session_told (revoked i) (live i)) ∙ own_session s rows distinct in
    λ i. verdict_with (known i) (whole i) (account_told (purged i) (disabled i) (enabled i)) (device_told (not_compliant i) (compliant i)) (reset i)
