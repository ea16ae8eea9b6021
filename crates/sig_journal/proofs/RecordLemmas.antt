-- How the records of a file are read, one by one, and what a further one adds.
use Rattle.std.proofs.Common.{◌≡◌, inl, inr, ℕ, zero, suc, ◌+◌, ◌≤◌, ◌<◌, List, [], ◌∷◌, ◌++◌, length, take, drop, Bool, true, false, cond, ◌==◌, nat_le, nat_lt, Option, Some, None, Result, Ok, Err, refl, sym, ◌∙◌, ap, subst, arith, append_assoc, length-append, length-take, length-drop, take-append-drop}
use Rattle.std.proofs.lemmas.Bool.{cases_Bool}
use Rattle.std.proofs.lemmas.Bool.Decides.{nat_tests}
use Rattle.std.proofs.lemmas.List.{drop_at, take_all, take-append-le, drop-append-le}
use Rattle.std.proofs.lemmas.List.Sums.{sum_by-cons}
use Rattle.std.specs.Prelude.{IfSome}
use Rattle.std.specs.Option.{option_map_or}
use Rattle.sig_json.specs.declared.limits.TheConstants.{LAST_NUMBER}
use Rattle.sig_journal.specs.declared.layout.TheConstants.{GATE_OPEN}
use Rattle.sig_journal.specs.Layout.{before_records, field, is_open, number_in_4, record_at, record_length, records_of, records_size}

-- these records, and then what further ones are read
abbrev pub appends : List (List ℕ) → Result (List (List ℕ)) ℕ → Result (List (List ℕ)) ℕ
appends [] more = more
appends (payload ∷ records) more = before_records payload (appends records more)

pub appends-ok : (first second : List (List ℕ)) → appends first (Ok second) ≡ Ok (first ++ second)
appends-ok [] second = refl
appends-ok (payload ∷ first) second = ap (before_records payload) (appends-ok first second)

pub appends-err : (first : List (List ℕ)) (at : ℕ) → appends first (Err at) ≡ Err at
appends-err [] at = refl
appends-err (payload ∷ first) at = ap (before_records payload) (appends-err first at)

pub appends-before : (first : List (List ℕ)) (payload : List ℕ) (more : Result (List (List ℕ)) ℕ) → appends first (before_records payload more) ≡ appends (first ++ payload ∷ []) more
appends-before [] payload more = refl
appends-before (p ∷ first) payload more = ap (before_records p) (appends-before first payload more)

-- the records after one were read, where all were
before_ok : (payload : List ℕ) (more : Result (List (List ℕ)) ℕ) (records : List (List ℕ)) → before_records payload more ≡ Ok records → (rest : List (List ℕ)) × (more ≡ Ok rest) × (records ≡ payload ∷ rest)
before_ok payload (Ok rest) records is = (rest, refl, cc)
before_ok payload (Err at) records is = absurd cc

-- a field within the first part is that part's
pub field-append : (at count : ℕ) (first second : List ℕ) → at + count ≤ length first → field at count (first ++ second) ≡ field at count first
field-append at count first second le =
    ap (λ (l : List ℕ). take count l) (drop-append-le at first second (omega arith)) ∙ take-append-le count (drop at first) second (omega (arith, length-drop at first))

-- a whole record stands first: its gate, its length and its payload
pub record IsRecord (whole : List ℕ) : Type 0 where
  pub gate : is_open whole ≡ true
  pub size : length whole ≡ 5 + record_length whole

length-same : (first second : List ℕ) → 5 ≤ length first → record_length (first ++ second) ≡ record_length first
length-same first second le = ap number_in_4 (field-append 1 4 first second (omega arith))

-- a whole record and a gate after it are read
record_here : (whole rest : List ℕ) → length whole ≡ 5 + record_length whole → 0 < length rest → record_at (whole ++ rest) ≡ Some (drop 5 whole, rest)
record_here whole rest size some =
    let same : record_length (whole ++ rest) ≡ record_length whole = length-same whole rest (omega arith) in
    let test : nat_lt (5 + record_length (whole ++ rest)) (length (whole ++ rest)) ≡ true = grind (arith, nat_tests, length-append whole rest, same, size, some) in
    let payload : field 5 (record_length (whole ++ rest)) (whole ++ rest) ≡ drop 5 whole =
    ap (λ (n : ℕ). field 5 n (whole ++ rest)) same ∙ field-append 5 (record_length whole) whole rest (omega arith) ∙ take_all (record_length whole) (drop 5 whole) (omega (arith, length-drop 5 whole)) in
    let next : drop (5 + record_length (whole ++ rest)) (whole ++ rest) ≡ rest = drop_at whole rest (5 + record_length (whole ++ rest)) (omega arith) in
    ap (λ (b : Bool). cond b (Some (field 5 (record_length (whole ++ rest)) (whole ++ rest), drop (5 + record_length (whole ++ rest)) (whole ++ rest))) None) test
    ∙ (λ i. Some (payload i, next i))

-- a step over a whole record that stands before the last place
pub records_step : (fuel place : ℕ) (whole rest : List ℕ) → nat_le LAST_NUMBER place ≡ false → IsRecord whole → 0 < length rest
    → records_of (suc fuel) place (whole ++ rest) ≡ before_records (drop 5 whole) (records_of fuel (place + 5 + length (drop 5 whole)) rest)
records_step fuel place [] rest near is some = absurd (omega (arith, is.size))
records_step fuel place (gate ∷ whole) rest near is some =
    let found = record_at (gate ∷ whole ++ rest) in
    let next = λ (o : Option (List ℕ × List ℕ)). option_map_or (λ f. before_records f.0 (records_of fuel (place + 5 + length f.0) f.1)) o (Err place) in
    ap (λ (b : Bool). cond b (Err place) (cond (gate == GATE_OPEN) (next found) (Ok []))) near
    ∙ ap (λ (b : Bool). cond b (next found) (Ok [])) is.gate
    ∙ ap next (record_here (gate ∷ whole) rest is.size some)

-- a closed gate ends the records
pub records_end : (fuel place gate : ℕ) (rest : List ℕ) → nat_le LAST_NUMBER place ≡ false → (gate == GATE_OPEN) ≡ false → records_of (suc fuel) place (gate ∷ rest) ≡ Ok []
records_end fuel place gate rest near shut =
    let next = option_map_or (λ f. before_records f.0 (records_of fuel (place + 5 + length f.0) f.1)) (record_at (gate ∷ rest)) (Err place) in
    ap (λ (b : Bool). cond b (Err place) (cond (gate == GATE_OPEN) next (Ok []))) near
    ∙ ap (λ (b : Bool). cond b next (Ok [])) shut

-- at most so many bytes stand from the next gate on
abbrev LeavesAtMost : ℕ → Option (List ℕ × List ℕ) → Type 0
LeavesAtMost n found = IfSome found (λ r. length r.1 ≤ n)

-- the same where there is a step for the gate
pub records_closed : (fuel place : ℕ) (bytes : List ℕ) → 0 < fuel → nat_le LAST_NUMBER place ≡ false → is_open bytes ≡ false → 0 < length bytes → records_of fuel place bytes ≡ Ok []
records_closed zero place bytes some near shut full = absurd (omega arith)
records_closed (suc fuel) place [] some near shut full = absurd (omega arith)
records_closed (suc fuel) place (gate ∷ rest) some near shut full = records_end fuel place gate rest near shut

-- the bytes from the next gate on are fewer
shrinks : (gate : ℕ) (rest : List ℕ) (n : ℕ) → length rest ≤ n → LeavesAtMost n (record_at (gate ∷ rest))
shrinks gate rest n le =
    let size = 5 + record_length (gate ∷ rest) in
    let found : Option (List ℕ × List ℕ) = Some (field 5 (record_length (gate ∷ rest)) (gate ∷ rest), drop size (gate ∷ rest)) in
    let less : length (drop size (gate ∷ rest)) ≤ n = omega (arith, length-drop size (gate ∷ rest), le) in
    elim (nat_lt size (length (gate ∷ rest))) as (λ b. LeavesAtMost n (cond b found None)) [ true ↦ less | false ↦ tt ]

next_same : (f g place : ℕ) → ((p : ℕ) (b : List ℕ) → length b ≤ f → length b ≤ g → records_of f p b ≡ records_of g p b)
    → (found : Option (List ℕ × List ℕ)) → LeavesAtMost f found → LeavesAtMost g found
    → option_map_or (λ r. before_records r.0 (records_of f (place + 5 + length r.0) r.1)) found (Err place)
    ≡ option_map_or (λ r. before_records r.0 (records_of g (place + 5 + length r.0) r.1)) found (Err place)
next_same f g place same None le le' = refl
next_same f g place same (Some r) le le' = ap (before_records r.0) (same (place + 5 + length r.0) r.1 le le')

-- more steps than bytes change nothing
pub fuel_enough : (f g place : ℕ) (bytes : List ℕ) → length bytes ≤ f → length bytes ≤ g → records_of f place bytes ≡ records_of g place bytes
fuel_enough zero zero place bytes le le' = refl
fuel_enough zero (suc g) place [] le le' = refl
fuel_enough zero (suc g) place (gate ∷ rest) le le' = absurd (omega arith)
fuel_enough (suc f) zero place [] le le' = refl
fuel_enough (suc f) zero place (gate ∷ rest) le le' = absurd (omega arith)
fuel_enough (suc f) (suc g) place [] le le' = refl
fuel_enough (suc f) (suc g) place (gate ∷ rest) le le' =
    ap (λ (o : Result (List (List ℕ)) ℕ). cond (nat_le LAST_NUMBER place) (Err place) (cond (gate == GATE_OPEN) o (Ok [])))
    (next_same f g place (λ p b b_f b_g. fuel_enough f g p b b_f b_g) (record_at (gate ∷ rest)) (shrinks gate rest f (omega arith)) (shrinks gate rest g (omega arith)))

-- where all records are read, they stand before a closed gate, and whatever stands in the place of that gate and what is after it is read after them
pub record Stands (place : ℕ) (bytes : List ℕ) (records : List (List ℕ)) : Type 0 where
  pub front : List ℕ
  pub gate : ℕ
  pub rest : List ℕ
  pub whole : bytes ≡ front ++ gate ∷ rest
  pub closed : (gate == GATE_OPEN) ≡ false
  pub near : nat_le LAST_NUMBER (place + length front) ≡ false
  pub size : length front ≡ records_size records
  pub again : (g : ℕ) (r : List ℕ) (fuel : ℕ) → length (front ++ g ∷ r) ≤ fuel
      → records_of fuel place (front ++ g ∷ r) ≡ appends records (records_of (length (g ∷ r)) (place + length front) (g ∷ r))

sizes : (payload : List ℕ) (records : List (List ℕ)) → records_size (payload ∷ records) ≡ 5 + length payload + records_size records
sizes payload records = sum_by-cons (λ p. 5 + length p) payload records

-- with no record
stands_none : (place gate : ℕ) (rest : List ℕ) → nat_le LAST_NUMBER place ≡ false → (gate == GATE_OPEN) ≡ false → Stands place (gate ∷ rest) []
stands_none place gate rest near shut =
    let here : place + length {A = ℕ} [] ≡ place = omega arith in
    record {
      front = [];
      gate = gate;
      rest = rest;
      whole = refl;
      closed = shut;
      near = ap (nat_le LAST_NUMBER) here ∙ near;
      size = refl;
      again = λ g r fuel le. fuel_enough fuel (length (g ∷ r)) place (g ∷ r) le (omega arith) ∙ ap (λ (p : ℕ). records_of (length (g ∷ r)) p (g ∷ r)) (sym here);
    }

-- with a record before the others
stands_more : (place : ℕ) (whole next : List ℕ) (records : List (List ℕ)) → nat_le LAST_NUMBER place ≡ false → IsRecord whole
    → Stands (place + 5 + length (drop 5 whole)) next records → Stands place (whole ++ next) (drop 5 whole ∷ records)
stands_more place whole next records near is s =
    let place' = place + 5 + length (drop 5 whole) in
    let here : place + length (whole ++ s.front) ≡ place' + length s.front = omega (arith, length-append whole s.front, length-drop 5 whole, is.size) in
    record {
      front = whole ++ s.front;
      gate = s.gate;
      rest = s.rest;
      whole = ap (λ (l : List ℕ). whole ++ l) s.whole ∙ sym (append_assoc whole s.front (s.gate ∷ s.rest));
      closed = s.closed;
      near = ap (nat_le LAST_NUMBER) here ∙ s.near;
      size = omega (arith, length-append whole s.front, length-drop 5 whole, is.size, s.size, sizes (drop 5 whole) records);
      again = λ g r fuel le.
          let bytes = s.front ++ g ∷ r in
          let grouped : (whole ++ s.front) ++ g ∷ r ≡ whole ++ bytes = append_assoc whole s.front (g ∷ r) in
          let some : 0 < length bytes = omega (arith, length-append s.front (g ∷ r)) in
          ap (records_of fuel place) grouped
          ∙ fuel_enough fuel (suc (length (whole ++ bytes))) place (whole ++ bytes) (subst (λ (l : List ℕ). length l ≤ fuel) grouped le) (omega arith)
          ∙ records_step (length (whole ++ bytes)) place whole bytes near is some
          ∙ ap (before_records (drop 5 whole)) (s.again g r (length (whole ++ bytes)) (omega (arith, length-append whole bytes)))
          ∙ ap (λ (p : ℕ). before_records (drop 5 whole) (appends records (records_of (length (g ∷ r)) p (g ∷ r)))) (sym here);
    }

open_front : (count gate : ℕ) (rest : List ℕ) → 0 < count → is_open (take count (gate ∷ rest)) ≡ (gate == GATE_OPEN)
open_front zero gate rest some = absurd (omega arith)
open_front (suc count) gate rest some = refl

-- an open gate whose record is cut
cut_here : (fuel place gate : ℕ) (rest : List ℕ) → nat_le LAST_NUMBER place ≡ false → (gate == GATE_OPEN) ≡ true
    → nat_lt (5 + record_length (gate ∷ rest)) (length (gate ∷ rest)) ≡ false → records_of (suc fuel) place (gate ∷ rest) ≡ Err place
cut_here fuel place gate rest near gapes short =
    let next = λ (o : Option (List ℕ × List ℕ)). option_map_or (λ f. before_records f.0 (records_of fuel (place + 5 + length f.0) f.1)) o (Err place) in
    let found = record_at (gate ∷ rest) in
    ap (λ (b : Bool). cond b (Err place) (cond (gate == GATE_OPEN) (next found) (Ok []))) near
    ∙ ap (λ (b : Bool). cond b (next found) (Ok [])) gapes
    ∙ ap (λ (b : Bool). next (cond b (Some (field 5 (record_length (gate ∷ rest)) (gate ∷ rest), drop (5 + record_length (gate ∷ rest)) (gate ∷ rest))) None)) short

err_not_ok : (read : Result (List (List ℕ)) ℕ) (at : ℕ) (records : List (List ℕ)) → read ≡ Err at → read ≡ Ok records → ⊥
err_not_ok read at records fails reads = cc

ok_same : (read : Result (List (List ℕ)) ℕ) (first second : List (List ℕ)) → read ≡ Ok first → read ≡ Ok second → first ≡ second
ok_same read first second one two = cc

too_far : (fuel place gate : ℕ) (rest : List ℕ) → nat_le LAST_NUMBER place ≡ true → records_of (suc fuel) place (gate ∷ rest) ≡ Err place
too_far fuel place gate rest far =
    let other = cond (gate == GATE_OPEN) (option_map_or (λ f. before_records f.0 (records_of fuel (place + 5 + length f.0) f.1)) (record_at (gate ∷ rest)) (Err place)) (Ok []) in
    ap (λ (b : Bool). cond b (Err place) other) far

-- an open gate whose record is whole
stands_open : (fuel place gate : ℕ) (rest : List ℕ) (records : List (List ℕ)) → ((p : ℕ) (b : List ℕ) (rs : List (List ℕ)) → records_of fuel p b ≡ Ok rs → Stands p b rs)
    → nat_le LAST_NUMBER place ≡ false → (gate == GATE_OPEN) ≡ true → 5 + record_length (gate ∷ rest) < length (gate ∷ rest) → records_of (suc fuel) place (gate ∷ rest) ≡ Ok records
    → Stands place (gate ∷ rest) records
stands_open fuel place gate rest records below near gapes fits is =
    let size = 5 + record_length (gate ∷ rest) in
    let whole = take size (gate ∷ rest) in
    let next = drop size (gate ∷ rest) in
    let parts : whole ++ next ≡ gate ∷ rest = take-append-drop size (gate ∷ rest) in
    let counted : length whole ≡ 5 + record_length (gate ∷ rest) = omega (arith, length-take size (gate ∷ rest), fits) in
    let same : record_length whole ≡ record_length (gate ∷ rest) = sym (length-same whole next (omega (arith, counted))) ∙ ap record_length parts in
    let is_record : IsRecord whole = record { gate = open_front size gate rest (omega arith) ∙ gapes; size = omega (arith, counted, same) } in
    let some : 0 < length next = omega (arith, length-drop size (gate ∷ rest), fits) in
    let read : before_records (drop 5 whole) (records_of fuel (place + 5 + length (drop 5 whole)) next) ≡ Ok records =
    sym (records_step fuel place whole next near is_record some) ∙ ap (records_of (suc fuel) place) parts ∙ is in
    let others = before_ok (drop 5 whole) (records_of fuel (place + 5 + length (drop 5 whole)) next) records read in
    subst (λ (b : List ℕ). Stands place b records) parts
    (subst (Stands place (whole ++ next)) (sym others.2) (stands_more place whole next others.0 near is_record (below (place + 5 + length (drop 5 whole)) next others.0 others.1)))

pub stands : (fuel place : ℕ) (bytes : List ℕ) (records : List (List ℕ)) → records_of fuel place bytes ≡ Ok records → Stands place bytes records
stands zero place bytes records is = absurd (err_not_ok (records_of zero place bytes) place records refl is)
stands (suc fuel) place [] records is = absurd (err_not_ok (records_of (suc fuel) place []) place records refl is)
stands (suc fuel) place (gate ∷ rest) records is =
    let read = records_of (suc fuel) place (gate ∷ rest) in
    elim (cases_Bool (nat_le LAST_NUMBER place)) [
      | inl far ↦ absurd (err_not_ok read place records (too_far fuel place gate rest far) is)
      | inr near ↦ elim (cases_Bool (gate == GATE_OPEN)) [
        | inr shut ↦ subst (Stands place (gate ∷ rest)) (ok_same read [] records (records_end fuel place gate rest near shut) is) (stands_none place gate rest near shut)
        | inl gapes ↦ elim (cases_Bool (nat_lt (5 + record_length (gate ∷ rest)) (length (gate ∷ rest)))) [
          | inr short ↦ absurd (err_not_ok read place records (cut_here fuel place gate rest near gapes short) is)
          | inl fits ↦ stands_open fuel place gate rest records (λ p b rs r. stands fuel p b rs r) near gapes (grind (arith, nat_tests, fits)) is
        ]
      ]
    ]

-- a whole record after an open gate is the first of the records
pub found_record : (place : ℕ) (bytes : List ℕ) → nat_le LAST_NUMBER place ≡ false → is_open bytes ≡ true → 5 + record_length bytes < length bytes
    → records_of (length bytes) place bytes ≡ before_records (drop 5 (take (5 + record_length bytes) bytes))
    (records_of (length (drop (5 + record_length bytes) bytes)) (place + 5 + length (drop 5 (take (5 + record_length bytes) bytes))) (drop (5 + record_length bytes) bytes))
found_record place [] near gapes fits = absurd (omega (arith, fits))
found_record place (gate ∷ rest) near gapes fits =
    let bytes = gate ∷ rest in
    let size = 5 + record_length bytes in
    let whole = take size bytes in
    let next = drop size bytes in
    let parts : whole ++ next ≡ bytes = take-append-drop size bytes in
    let counted : length whole ≡ 5 + record_length bytes = omega (arith, length-take size bytes, fits) in
    let same : record_length whole ≡ record_length bytes = sym (length-same whole next (omega (arith, counted))) ∙ ap record_length parts in
    let is_record : IsRecord whole = record { gate = open_front size gate rest (omega arith) ∙ gapes; size = omega (arith, counted, same) } in
    let less : length next ≤ length bytes = omega (arith, length-drop size bytes) in
    fuel_enough (length bytes) (suc (length bytes)) place bytes (omega arith) (omega arith)
    ∙ ap (records_of (suc (length bytes)) place) (sym parts)
    ∙ records_step (length bytes) place whole next near is_record (omega (arith, length-drop size bytes, fits))
    ∙ ap (before_records (drop 5 whole)) (fuel_enough (length bytes) (length next) (place + 5 + length (drop 5 whole)) next less (omega arith))

pub cut_record : (place : ℕ) (bytes : List ℕ) → nat_le LAST_NUMBER place ≡ false → is_open bytes ≡ true → length bytes ≤ 5 + record_length bytes → records_of (length bytes) place bytes ≡ Err place
cut_record place [] near gapes short = refl
cut_record place (gate ∷ rest) near gapes short = cut_here (length rest) place gate rest near gapes (not_less (5 + record_length (gate ∷ rest)) (length (gate ∷ rest)) short)
  where
    not_less : (a b : ℕ) → b ≤ a → nat_lt a b ≡ false
    not_less a b le = grind (arith, nat_tests)
