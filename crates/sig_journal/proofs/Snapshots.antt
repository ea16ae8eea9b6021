-- A file with a snapshot tells that snapshot, and is in force beside a file of the generation before.
use Rattle.std.proofs.Common.{◌≡◌, ◌⊎◌, inl, inr, ⊎_elim, ℕ, ◌+◌, ◌≤◌, ◌<◌, ◌^◌, List, [], ◌∷◌, ◌++◌, length, take, drop, Bool, true, false, nat_eq, nat_le, nat_lt, if◌then◌else◌, Some, None, Ok, refl, sym, ◌∙◌, ap, subst, arith, append_assoc, length-append}
use Rattle.std.proofs.lemmas.Bool.{cases_Bool, le-leb}
use Rattle.std.proofs.lemmas.Bool.Decides.{nat_tests}
use Rattle.std.proofs.lemmas.List.{take_at, drop_at}
use Rattle.std.proofs.lemmas.Nat.{from_be_bytes-to_be_bytes_4, from_be_bytes-to_be_bytes_8}
use Rattle.std.specs.Cmp.Lexicographic.{pointwise}
use Rattle.std.specs.Int.{to_be_bytes, w32, w64}
use Rattle.sig_json.specs.declared.limits.TheConstants.{LAST_NUMBER}
use Rattle.sig_journal.specs.declared.gate.Gate.TheVariants.{Opened}
use Rattle.sig_journal.specs.declared.kind.Kind.{Kind}
use Rattle.sig_journal.specs.declared.kind.Kind.TheVariants.{Tx, Rx}
use Rattle.sig_journal.specs.declared.layout.TheConstants.{GATE_OPEN, MAGIC, VERSION}
use Rattle.sig_journal.specs.Layout.{content_by, content_of, field, generation_of, kind_byte, number_in_4, number_in_8, records_of, snapshot_length, with_records}
use Rattle.sig_journal.specs.Store.{InForce, gate_of}
use Rattle.sig_journal.proofs.Fronts.{IsHeader, header_passes}
use Rattle.sig_journal.proofs.RecordLemmas.{records_end}
use Rattle.sig_journal.specs.Beside.{LeavesTold, TellsBefore}
use Rattle.sig_journal.specs.Heading.{file_bytes}
use Rattle.sig_journal.specs.Snapshot.{TellsEither, TellsSnapshot, too_great}
use Rattle.sig_journal.specs.declared.checkpoint.heading.Heading.{Heading}
use Rattle.sig_journal.proofs.Beside.{next_in_force}

module _ (kind : Kind) (generation : ℕ) (store_id snapshot : List ℕ) (bound : generation ≤ LAST_NUMBER) (named : length store_id ≡ 16) (fits : length snapshot < 2 ^ 32) where
  abbrev file : List ℕ
  file = GATE_OPEN ∷ file_bytes kind generation store_id snapshot

  abbrev size : List ℕ
  size = to_be_bytes w32 (length snapshot)

  -- the bytes after the generation: name, length, snapshot and gate
  after_generation : drop 15 file ≡ store_id ++ (size ++ (snapshot ++ 0 ∷ []))
  after_generation =
      append_assoc (store_id ++ size) snapshot (0 ∷ []) ∙ append_assoc store_id size (snapshot ++ 0 ∷ [])

  name_again : field 15 16 file ≡ store_id
  name_again = ap (λ (l : List ℕ). take 16 l) after_generation ∙ take_at store_id (size ++ (snapshot ++ 0 ∷ [])) 16 named

  after_name : drop 31 file ≡ size ++ (snapshot ++ 0 ∷ [])
  after_name = ap (λ (l : List ℕ). drop 16 l) after_generation ∙ drop_at store_id (size ++ (snapshot ++ 0 ∷ [])) 16 named

  counted : snapshot_length file ≡ length snapshot
  unfolding number_in_4
  counted = ap (λ (l : List ℕ). number_in_4 (take 4 l)) after_name ∙ from_be_bytes-to_be_bytes_4 (length snapshot) fits

  after_size : drop 35 file ≡ snapshot ++ 0 ∷ []
  after_size =
      ap (λ (l : List ℕ). drop 20 l) (append_assoc (store_id ++ size) snapshot (0 ∷ []))
      ∙ drop_at (store_id ++ size) (snapshot ++ 0 ∷ []) 20 (omega (arith, named, length-append store_id size))

  snapshot_again : field 35 (snapshot_length file) file ≡ snapshot
  snapshot_again =
      ap (λ (n : ℕ). field 35 n file) counted ∙ ap (λ (l : List ℕ). take (length snapshot) l) after_size ∙ take_at snapshot (0 ∷ []) (length snapshot) refl

  -- the bytes before the gate of the first record
  abbrev front : List ℕ
  front = GATE_OPEN ∷ (MAGIC ++ VERSION ∷ kind_byte kind ∷ [] ++ to_be_bytes w64 generation ++ store_id ++ size ++ snapshot)

  length-front : length front ≡ 35 + length snapshot
  length-front = omega (arith, named, length-append (store_id ++ size) snapshot, length-append store_id size)

  length-file : length file ≡ 36 + length snapshot
  length-file = omega (arith, length-front, length-append front (0 ∷ []))

  last_gate : drop (35 + snapshot_length file) file ≡ 0 ∷ []
  last_gate = ap (λ (n : ℕ). drop (35 + n) file) counted ∙ drop_at front (0 ∷ []) (35 + length snapshot) length-front

  generation_again : generation_of file ≡ generation
  unfolding number_in_8
  generation_again = from_be_bytes-to_be_bytes_8 generation (omega (arith, bound))

  pub new_generation : gate_of file ≡ Opened generation
  new_generation = ap (λ (n : ℕ). Opened n) generation_again

  kind_again : (k : Kind) → pointwise nat_eq (kind_byte k ∷ []) (kind_byte k ∷ []) ≡ true
  kind_again Tx = refl
  kind_again Rx = refl

  is_header : IsHeader kind file
  is_header = record {
    magic = refl;
    version = refl;
    kind_is = kind_again kind;
    generation = le-leb _ _ (omega (arith, generation_again, bound));
    size = le-leb _ _ (omega (arith, counted, length-file));
  }

  near : nat_le LAST_NUMBER (35 + length snapshot) ≡ false
  near = far (35 + length snapshot) (omega (arith, fits))
    where
      far : (place : ℕ) → place < LAST_NUMBER → nat_le LAST_NUMBER place ≡ false
      far place less = grind (arith, nat_tests)

  pub new_holds : content_of kind file ≡ Ok (record { store_id = store_id; snapshot = snapshot; records = [] })
  new_holds =
      ap (content_by file) (header_passes kind file is_header)
      ∙ (λ i. with_records (name_again i) (snapshot_again i) (records_of (length (last_gate i)) (35 + counted i) (last_gate i)))
      ∙ ap (with_records store_id snapshot) (records_end 0 (35 + length snapshot) 0 [] near refl)

-- beside a file of the generation before it is in force, with the name and the snapshot
pub snapshot_told : (header : Heading) (snapshot written : List ℕ) → header.generation + 1 ≤ LAST_NUMBER → length header.store_id ≡ 16 → length snapshot < 2 ^ 32 → gate_of written ≡ Opened header.generation
    → TellsSnapshot header snapshot written (GATE_OPEN ∷ file_bytes header.kind (header.generation + 1) header.store_id snapshot)
snapshot_told header snapshot written bound named fits is =
    next_in_force header.kind written (GATE_OPEN ∷ file_bytes header.kind (header.generation + 1) header.store_id snapshot) header.generation (record { store_id = header.store_id; snapshot = snapshot; records = [] }) is
    (new_generation header.kind (header.generation + 1) header.store_id snapshot bound named fits)
    (new_holds header.kind (header.generation + 1) header.store_id snapshot bound named fits)

-- what follows where no number is too great
pub not_too_great : (generation size : ℕ) → None ≡ too_great generation size → (size < 2 ^ 32) × (generation + 1 ≤ LAST_NUMBER)
not_too_great generation size none = elim (cases_Bool (nat_le (2 ^ 32) size)) [
  | inl long ↦ absurd (not_none size (none ∙ ap (λ (b : Bool). if b then Some size else (if nat_lt LAST_NUMBER (generation + 1) then Some (generation + 1) else None)) long))
  | inr short ↦ elim (cases_Bool (nat_lt LAST_NUMBER (generation + 1))) [
    | inl late ↦ absurd (not_none (generation + 1) (none ∙ (λ i. if short i then Some size else (if late i then Some (generation + 1) else None))))
    | inr within ↦ (fits size short, bounded (generation + 1) within)
  ]
]
  where
    not_none : (n : ℕ) → None ≡ Some n → ⊥
    not_none n is = cc

    fits : (n : ℕ) → nat_le (2 ^ 32) n ≡ false → n < 2 ^ 32
    fits n short = grind (arith, nat_tests)

    bounded : (n : ℕ) → nat_lt LAST_NUMBER n ≡ false → n ≤ LAST_NUMBER
    bounded n within = grind (arith, nat_tests)

-- these bytes after an open gate are a file in force
pub put_in_force : (header : Heading) (snapshot bytes image : List ℕ) → None ≡ too_great header.generation (length snapshot) → length header.store_id ≡ 16
    → bytes ≡ file_bytes header.kind (header.generation + 1) header.store_id snapshot → image ≡ GATE_OPEN ∷ bytes
    → InForce header.kind image (36 + length snapshot) (header.generation + 1) header.store_id
put_in_force header snapshot bytes image none named is put =
    let within = not_too_great header.generation (length snapshot) none in
    subst (λ (l : List ℕ). InForce header.kind l (36 + length snapshot) (header.generation + 1) header.store_id) (sym (put ∙ ap (λ (l : List ℕ). GATE_OPEN ∷ l) is))
    (record {
      content = record { store_id = header.store_id; snapshot = snapshot; records = [] };
      holds = new_holds header.kind (header.generation + 1) header.store_id snapshot within.1 named within.0;
      ends = omega arith;
      named = refl;
      begins = new_generation header.kind (header.generation + 1) header.store_id snapshot within.1 named within.0;
    })

-- what a store tells while these bytes are put after the gate of its other file
module _ (header : Heading) (snapshot written before bytes : List ℕ) (none : None ≡ too_great header.generation (length snapshot)) (named : length header.store_id ≡ 16) (is : bytes ≡ file_bytes header.kind (header.generation + 1) header.store_id snapshot)
    (in_force : gate_of written ≡ Opened header.generation) where
  pub put_told : (image : List ℕ) → image ≡ GATE_OPEN ∷ bytes → TellsSnapshot header snapshot written image
  put_told image put =
      let within = not_too_great header.generation (length snapshot) none in
      subst (TellsSnapshot header snapshot written) (sym (put ∙ ap (λ (l : List ℕ). GATE_OPEN ∷ l) is)) (snapshot_told header snapshot written within.1 named within.0 in_force)

  pub left_told : (image : List ℕ) → LeavesTold before image → TellsBefore header.kind written before image
  left_told image leaves = leaves header.kind written

  pub either_told : (image : List ℕ) → LeavesTold before image ⊎ (image ≡ GATE_OPEN ∷ bytes) → TellsEither header snapshot written before image
  either_told image either = ⊎_elim (λ leaves. inl (left_told image leaves)) (λ put. inr (put_told image put)) either
