-- What a file tells whose last gate, and what stands after it, are others.
use Rattle.std.proofs.Common.{◌≡◌, ℕ, suc, ◌+◌, ◌≤◌, ◌<◌, ◌^◌, List, [], ◌∷◌, ◌++◌, length, take, drop, Bool, true, false, cond, ◌&&◌, ◌==◌, nat_eq, nat_le, if◌then◌else◌, Option, Some, None, Result, Ok, Err, refl, sym, ◌∙◌, ap, subst, arith, append_assoc, length-append, length-take, length-drop, take-append-drop}
use Rattle.std.proofs.lemmas.Bool.{le-leb, leb-true}
use Rattle.std.proofs.lemmas.Bool.Decides.{nat_tests}
use Rattle.std.proofs.lemmas.List.{drop_at, append-nil}
use Rattle.std.proofs.lemmas.Nat.{from_be_bytes-to_be_bytes_4}
use Rattle.std.specs.Cmp.Lexicographic.{pointwise}
use Rattle.std.specs.Int.{to_be_bytes, w32}
use Rattle.sig_json.specs.Checks.{Check, check, first_failing}
use Rattle.sig_json.specs.declared.limits.TheConstants.{LAST_NUMBER}
use Rattle.sig_journal.specs.declared.kind.Kind.{Kind}
use Rattle.sig_journal.specs.declared.layout.TheConstants.{GATE_OPEN, MAGIC, VERSION}
use Rattle.sig_journal.specs.Layout.{Content, before_records, content_by, content_of, end_of, field, framed_bytes, generation_of, header_checks, kind_byte, number_in_4, number_in_8, record_length, records_of, snapshot_length, with_records}
use Rattle.sig_journal.specs.Store.{add_record, gate_of}
use Rattle.sig_journal.specs.declared.gate.Gate.TheVariants.{Closed, Opened}
use Rattle.sig_journal.proofs.RecordLemmas.{IsRecord, Stands, appends, appends-err, appends-ok, field-append, fuel_enough, records_closed, records_end, records_step, stands}

-- a check that holds is passed over
pass : (fault : ℕ) (holds : Bool) (rest : List (Check ℕ)) → holds ≡ true → first_failing rest ≡ None → first_failing (check fault holds ∷ rest) ≡ None
pass fault holds rest holding none = ap (λ (b : Bool). cond b (first_failing rest) (Some fault)) holding ∙ none

passed : (fault : ℕ) (holds : Bool) (rest : List (Check ℕ)) → first_failing (check fault holds ∷ rest) ≡ None → (holds ≡ true) × (first_failing rest ≡ None)
passed fault true rest none = (refl, none)
passed fault false rest none = absurd cc

both : (a b : Bool) → (a && b) ≡ true → (a ≡ true) × (b ≡ true)
both true b h = (refl, h)
both false b h = absurd cc

-- a header that is whole and right
pub record IsHeader (kind : Kind) (bytes : List ℕ) : Type 0 where
  pub magic : pointwise nat_eq (field 1 4 bytes) MAGIC ≡ true
  pub version : pointwise nat_eq (field 5 1 bytes) (VERSION ∷ []) ≡ true
  pub kind_is : pointwise nat_eq (field 6 1 bytes) (kind_byte kind ∷ []) ≡ true
  pub generation : nat_le (generation_of bytes) LAST_NUMBER ≡ true
  pub size : nat_le (35 + snapshot_length bytes) (length bytes) ≡ true

-- the checks from each offset on
abbrev from_35 : List ℕ → List (Check ℕ)
from_35 bytes = check 35 (nat_le (35 + snapshot_length bytes) (length bytes)) ∷ []

abbrev from_31 : List ℕ → List (Check ℕ)
from_31 bytes = check 31 (nat_le 35 (length bytes)) ∷ from_35 bytes

abbrev from_15 : List ℕ → List (Check ℕ)
from_15 bytes = check 15 (nat_le 31 (length bytes)) ∷ from_31 bytes

abbrev from_7 : List ℕ → List (Check ℕ)
from_7 bytes = check 7 (nat_le 15 (length bytes) && nat_le (generation_of bytes) LAST_NUMBER) ∷ from_15 bytes

abbrev from_6 : Kind → List ℕ → List (Check ℕ)
from_6 kind bytes = check 6 (pointwise nat_eq (field 6 1 bytes) (kind_byte kind ∷ [])) ∷ from_7 bytes

abbrev from_5 : Kind → List ℕ → List (Check ℕ)
from_5 kind bytes = check 5 (pointwise nat_eq (field 5 1 bytes) (VERSION ∷ [])) ∷ from_6 kind bytes

pub header_passes : (kind : Kind) (bytes : List ℕ) → IsHeader kind bytes → first_failing (header_checks kind bytes) ≡ None
header_passes kind bytes h =
    let long : 35 ≤ length bytes = grind (arith, nat_tests, h.size) in
    let fits : (n : ℕ) → n ≤ 35 → nat_le n (length bytes) ≡ true = λ n le. le-leb n (length bytes) (omega (arith, le, long)) in
    let seven : (nat_le 15 (length bytes) && nat_le (generation_of bytes) LAST_NUMBER) ≡ true =
    ap (λ (b : Bool). b && nat_le (generation_of bytes) LAST_NUMBER) (fits 15 (omega arith)) ∙ h.generation in
    let p35 = pass 35 (nat_le (35 + snapshot_length bytes) (length bytes)) [] h.size refl in
    let p31 = pass 31 (nat_le 35 (length bytes)) (from_35 bytes) (fits 35 (omega arith)) p35 in
    let p15 = pass 15 (nat_le 31 (length bytes)) (from_31 bytes) (fits 31 (omega arith)) p31 in
    let p7 = pass 7 (nat_le 15 (length bytes) && nat_le (generation_of bytes) LAST_NUMBER) (from_15 bytes) seven p15 in
    let p6 = pass 6 (pointwise nat_eq (field 6 1 bytes) (kind_byte kind ∷ [])) (from_7 bytes) h.kind_is p7 in
    let p5 = pass 5 (pointwise nat_eq (field 5 1 bytes) (VERSION ∷ [])) (from_6 kind bytes) h.version p6 in
    pass 1 (pointwise nat_eq (field 1 4 bytes) MAGIC) (from_5 kind bytes) h.magic p5

passes_header : (kind : Kind) (bytes : List ℕ) → first_failing (header_checks kind bytes) ≡ None → IsHeader kind bytes
passes_header kind bytes none =
    let c1 = passed 1 (pointwise nat_eq (field 1 4 bytes) MAGIC) (from_5 kind bytes) none in
    let c5 = passed 5 (pointwise nat_eq (field 5 1 bytes) (VERSION ∷ [])) (from_6 kind bytes) c1.1 in
    let c6 = passed 6 (pointwise nat_eq (field 6 1 bytes) (kind_byte kind ∷ [])) (from_7 bytes) c5.1 in
    let c7 = passed 7 (nat_le 15 (length bytes) && nat_le (generation_of bytes) LAST_NUMBER) (from_15 bytes) c6.1 in
    let c15 = passed 15 (nat_le 31 (length bytes)) (from_31 bytes) c7.1 in
    let c31 = passed 31 (nat_le 35 (length bytes)) (from_35 bytes) c15.1 in
    let c35 = passed 35 (nat_le (35 + snapshot_length bytes) (length bytes)) [] c31.1 in
    record {
      magic = c1.0;
      version = c5.0;
      kind_is = c6.0;
      generation = (both (nat_le 15 (length bytes)) (nat_le (generation_of bytes) LAST_NUMBER) c7.0).1;
      size = c35.0;
    }

-- the header and the snapshot stand in the first bytes, whatever stands after them
header_again : (kind : Kind) (bytes rest : List ℕ) → IsHeader kind bytes
    → content_of kind (take (35 + snapshot_length bytes) bytes ++ rest)
    ≡ with_records (field 15 16 bytes) (field 35 (snapshot_length bytes) bytes) (records_of (length rest) (35 + snapshot_length bytes) rest)
header_again kind bytes rest h =
    ap (content_by other) (header_passes kind other is_header)
    ∙ (λ i. with_records (same 15 16 (omega arith) i) ((ap (λ (n : ℕ). field 35 n other) counted ∙ same 35 (snapshot_length bytes) (omega arith)) i)
    (records_of (length (behind i)) (35 + counted i) (behind i)))
  where
    size : ℕ
    size = 35 + snapshot_length bytes

    head : List ℕ
    head = take (35 + snapshot_length bytes) bytes

    other : List ℕ
    other = take (35 + snapshot_length bytes) bytes ++ rest

    within : 35 + snapshot_length bytes ≤ length bytes
    within = grind (arith, nat_tests, h.size)

    counts : length (take (35 + snapshot_length bytes) bytes) ≡ 35 + snapshot_length bytes
    counts = omega (arith, length-take (35 + snapshot_length bytes) bytes, within)

    same : (at count : ℕ) → at + count ≤ 35 + snapshot_length bytes → field at count (take (35 + snapshot_length bytes) bytes ++ rest) ≡ field at count bytes
    same at count le =
        field-append at count (take (35 + snapshot_length bytes) bytes) rest (omega (arith, counts))
        ∙ sym (field-append at count (take (35 + snapshot_length bytes) bytes) (drop (35 + snapshot_length bytes) bytes) (omega (arith, counts)))
        ∙ ap (λ (l : List ℕ). field at count l) (take-append-drop (35 + snapshot_length bytes) bytes)

    counted : snapshot_length (take (35 + snapshot_length bytes) bytes ++ rest) ≡ snapshot_length bytes
    counted = ap number_in_4 (same 31 4 (omega arith))

    behind : drop (35 + snapshot_length (take (35 + snapshot_length bytes) bytes ++ rest)) (take (35 + snapshot_length bytes) bytes ++ rest) ≡ rest
    behind = drop_at (take (35 + snapshot_length bytes) bytes) rest (35 + snapshot_length (take (35 + snapshot_length bytes) bytes ++ rest)) (omega (arith, counts, counted))

    is_header : IsHeader kind (take (35 + snapshot_length bytes) bytes ++ rest)
    is_header = record {
      magic = ap (λ (l : List ℕ). pointwise nat_eq l MAGIC) (same 1 4 (omega arith)) ∙ h.magic;
      version = ap (λ (l : List ℕ). pointwise nat_eq l (VERSION ∷ [])) (same 5 1 (omega arith)) ∙ h.version;
      kind_is = ap (λ (l : List ℕ). pointwise nat_eq l (kind_byte kind ∷ [])) (same 6 1 (omega arith)) ∙ h.kind_is;
      generation = ap (λ (l : List ℕ). nat_le (number_in_8 l) LAST_NUMBER) (same 7 8 (omega arith)) ∙ h.generation;
      size = grind (arith, nat_tests, counts, counted, length-append (take (35 + snapshot_length bytes) bytes) rest);
    }

-- content with what further records were read
abbrev pub added : Content → Result (List (List ℕ)) ℕ → Result Content ℕ
added content (Ok records) = Ok (record content { records = content.records ++ records })
added content (Err at) = Err at

-- a file that is a journal: its bytes before its last gate, that gate and what stands after it, and what it tells where these are others
pub record Whole (kind : Kind) (bytes : List ℕ) (content : Content) : Type 0 where
  pub front : List ℕ
  pub gate : ℕ
  pub rest : List ℕ
  pub parts : bytes ≡ front ++ gate ∷ rest
  pub closed : (gate == GATE_OPEN) ≡ false
  pub near : nat_le LAST_NUMBER (length front) ≡ false
  pub size : length front + 1 ≡ end_of content
  pub again : (g : ℕ) (r : List ℕ) → content_of kind (front ++ g ∷ r) ≡ added content (records_of (length (g ∷ r)) (length front) (g ∷ r))

with_records_ok : (store_id snapshot : List ℕ) (read : Result (List (List ℕ)) ℕ) (content : Content) → with_records store_id snapshot read ≡ Ok content
    → (records : List (List ℕ)) × (read ≡ Ok records) × (content ≡ record { store_id = store_id; snapshot = snapshot; records = records })
with_records_ok store_id snapshot (Ok records) content is = (records, refl, cc)
with_records_ok store_id snapshot (Err at) content is = absurd cc

with_records-appends : (store_id snapshot : List ℕ) (records : List (List ℕ)) (more : Result (List (List ℕ)) ℕ)
    → with_records store_id snapshot (appends records more) ≡ added (record { store_id = store_id; snapshot = snapshot; records = records }) more
with_records-appends store_id snapshot records (Ok more) = ap (with_records store_id snapshot) (appends-ok records more)
with_records-appends store_id snapshot records (Err at) = ap (with_records store_id snapshot) (appends-err records at)

-- the bytes of a snapshot that isn't cut
pub length-field : (at count : ℕ) (bytes : List ℕ) → at + count ≤ length bytes → length (field at count bytes) ≡ count
length-field at count bytes le = omega (arith, length-take count (drop at bytes), length-drop at bytes, le)

whole_read : (kind : Kind) (bytes : List ℕ) (records : List (List ℕ)) → IsHeader kind bytes
    → Stands (35 + snapshot_length bytes) (drop (35 + snapshot_length bytes) bytes) records
    → Whole kind bytes (record { store_id = field 15 16 bytes; snapshot = field 35 (snapshot_length bytes) bytes; records = records })
whole_read kind bytes records h s =
    let size = 35 + snapshot_length bytes in
    let head = take size bytes in
    let within : size ≤ length bytes = leb-true size (length bytes) h.size in
    let counts : length head ≡ size = omega (arith, length-take size bytes, within) in
    let here : length (head ++ s.front) ≡ size + length s.front = omega (arith, length-append head s.front, counts) in
    record {
      front = head ++ s.front;
      gate = s.gate;
      rest = s.rest;
      parts = sym (take-append-drop size bytes) ∙ ap (λ (l : List ℕ). head ++ l) s.whole ∙ sym (append_assoc head s.front (s.gate ∷ s.rest));
      closed = s.closed;
      near = ap (nat_le LAST_NUMBER) here ∙ s.near;
      size = omega (arith, here, s.size, length-field 35 (snapshot_length bytes) bytes within);
      again = λ g r.
          ap (content_of kind) (append_assoc head s.front (g ∷ r))
          ∙ header_again kind bytes (s.front ++ g ∷ r) h
          ∙ ap (with_records (field 15 16 bytes) (field 35 (snapshot_length bytes) bytes)) (s.again g r (length (s.front ++ g ∷ r)) (omega arith))
          ∙ with_records-appends (field 15 16 bytes) (field 35 (snapshot_length bytes) bytes) records (records_of (length (g ∷ r)) (size + length s.front) (g ∷ r))
          ∙ ap (λ (p : ℕ). added (record { store_id = field 15 16 bytes; snapshot = field 35 (snapshot_length bytes) bytes; records = records }) (records_of (length (g ∷ r)) p (g ∷ r))) (sym here);
    }

whole_by : (kind : Kind) (bytes : List ℕ) (content : Content) (failing : Option ℕ) → first_failing (header_checks kind bytes) ≡ failing → content_by bytes failing ≡ Ok content → Whole kind bytes content
whole_by kind bytes content (Some at) checked is = absurd cc
whole_by kind bytes content None checked is =
    let size = 35 + snapshot_length bytes in
    let read = with_records_ok (field 15 16 bytes) (field 35 (snapshot_length bytes) bytes) (records_of (length (drop size bytes)) size (drop size bytes)) content is in
    subst (Whole kind bytes) (sym read.2)
    (whole_read kind bytes read.0 (passes_header kind bytes checked) (stands (length (drop size bytes)) size (drop size bytes) read.0 read.1))

-- a file that tells something is a journal
pub whole : (kind : Kind) (bytes : List ℕ) (content : Content) → content_of kind bytes ≡ Ok content → Whole kind bytes content
whole kind bytes content is = whole_by kind bytes content (first_failing (header_checks kind bytes)) refl is

-- the length of a record is read as it was written
length_again : (payload : List ℕ) → length payload < 2 ^ 32 → record_length (GATE_OPEN ∷ to_be_bytes w32 (length payload) ++ payload) ≡ length payload
unfolding number_in_4
length_again payload fits = from_be_bytes-to_be_bytes_4 (length payload) fits

module _ (kind : Kind) (bytes : List ℕ) (content : Content) (w : Whole kind bytes content) where
  -- whatever stands after a closed gate has no part in what it tells
  pub closed_again : (gate : ℕ) (rest : List ℕ) → (gate == GATE_OPEN) ≡ false → content_of kind (w.front ++ gate ∷ rest) ≡ Ok content
  closed_again gate rest shut =
      w.again gate rest ∙ ap (added content) (records_end (length rest) (length w.front) gate rest w.near shut)
      ∙ ap (λ (l : List (List ℕ)). Ok (record content { records = l })) (append-nil content.records)

  -- an open gate before a whole record and a closed gate adds the record
  pub opened_again : (payload rest : List ℕ) → length payload < 2 ^ 32 → nat_le LAST_NUMBER (length w.front + 5 + length payload) ≡ false
      → content_of kind (w.front ++ GATE_OPEN ∷ (framed_bytes payload ++ rest)) ≡ Ok (add_record content payload)
  opened_again payload rest fits near =
      let size = to_be_bytes w32 (length payload) in
      let one = GATE_OPEN ∷ size ++ payload in
      let counted : record_length one ≡ length payload = length_again payload fits in
      let is : IsRecord one = record { gate = refl; size = omega (arith, counted, length-append size payload) } in
      let grouped : GATE_OPEN ∷ framed_bytes payload ++ rest ≡ one ++ 0 ∷ rest =
      ap (λ (l : List ℕ). GATE_OPEN ∷ l) (append_assoc (size ++ payload) (0 ∷ []) rest) in
      let read : records_of (length (GATE_OPEN ∷ framed_bytes payload ++ rest)) (length w.front) (GATE_OPEN ∷ framed_bytes payload ++ rest) ≡ Ok (payload ∷ []) =
      fuel_enough (length (GATE_OPEN ∷ framed_bytes payload ++ rest)) (suc (length (one ++ 0 ∷ rest))) (length w.front) (GATE_OPEN ∷ framed_bytes payload ++ rest) (omega arith) (omega (arith, ap length grouped))
      ∙ ap (records_of (suc (length (one ++ 0 ∷ rest))) (length w.front)) grouped
      ∙ records_step (length (one ++ 0 ∷ rest)) (length w.front) one (0 ∷ rest) w.near is (omega arith)
      ∙ ap (before_records payload) (records_closed (length (one ++ 0 ∷ rest)) (length w.front + 5 + length payload) (0 ∷ rest) (omega (arith, length-append one (0 ∷ rest))) near refl (omega arith)) in
      w.again GATE_OPEN (framed_bytes payload ++ rest) ∙ ap (added content) read

-- the first bytes alone say how a file begins
pub gate_same : (front first second : List ℕ) → 15 ≤ length front → gate_of (front ++ first) ≡ gate_of (front ++ second)
gate_same [] first second long = absurd (omega arith)
gate_same (gate ∷ front) first second long =
    let same : field 7 8 (gate ∷ front ++ first) ≡ field 7 8 (gate ∷ front ++ second) =
    field-append 7 8 (gate ∷ front) first long ∙ sym (field-append 7 8 (gate ∷ front) second long) in
    ap (λ (l : List ℕ). if gate == GATE_OPEN then Opened (number_in_8 l) else Closed) same

-- and they stay
pub gate_again : (kind : Kind) (bytes : List ℕ) (content : Content) (w : Whole kind bytes content) (gate : ℕ) (rest : List ℕ) → gate_of (w.front ++ gate ∷ rest) ≡ gate_of bytes
gate_again kind bytes content w gate rest =
    gate_same w.front (gate ∷ rest) (w.gate ∷ w.rest) (omega (arith, w.size)) ∙ ap gate_of (sym w.parts)
