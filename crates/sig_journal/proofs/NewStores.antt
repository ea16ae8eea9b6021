-- A new store tells that it is empty.
use Rattle.std.proofs.Common.{◌≡◌, ℕ, ◌+◌, List, [], ◌∷◌, ◌++◌, length, take, drop, true, false, nat_le, Ok, refl, sym, ◌∙◌, ap, arith, append_assoc, length-append}
use Rattle.std.proofs.lemmas.Bool.{le-leb}
use Rattle.std.proofs.lemmas.List.{take_at, drop_at}
use Rattle.sig_journal.specs.declared.kind.Kind.{Kind}
use Rattle.sig_journal.specs.declared.kind.Kind.TheVariants.{Tx, Rx}
use Rattle.sig_journal.specs.declared.layout.TheConstants.{GATE_OPEN}
use Rattle.sig_journal.specs.Layout.{content_by, content_of, field, new_bytes, number_in_4, number_in_8, records_of, snapshot_length, with_records}
use Rattle.sig_journal.specs.Store.{tells, told_in}
use Rattle.sig_journal.proofs.Fronts.{IsHeader, header_passes}

module _ (kind : Kind) (store_id : List ℕ) (named : length store_id ≡ 16) where
  abbrev file : List ℕ
  file = GATE_OPEN ∷ new_bytes kind store_id

  abbrev zeros : List ℕ
  zeros = 0 ∷ 0 ∷ 0 ∷ 0 ∷ 0 ∷ []

  behind_name : drop 31 file ≡ zeros
  behind_name = drop_at store_id zeros 16 named

  name_again : field 15 16 file ≡ store_id
  name_again = take_at store_id zeros 16 named

  no_snapshot : snapshot_length file ≡ 0
  unfolding number_in_4
  no_snapshot = ap (λ (l : List ℕ). number_in_4 (take 4 l)) behind_name

  behind_header : drop 35 file ≡ 0 ∷ []
  behind_header =
      ap (λ (l : List ℕ). drop 20 l) (sym (append_assoc store_id (0 ∷ 0 ∷ 0 ∷ 0 ∷ []) (0 ∷ [])))
      ∙ drop_at (store_id ++ 0 ∷ 0 ∷ 0 ∷ 0 ∷ []) (0 ∷ []) 20 (omega (arith, named, length-append store_id (0 ∷ 0 ∷ 0 ∷ 0 ∷ [])))

  size : length file ≡ 36
  size = omega (arith, named, length-append store_id zeros)

  first_generation : nat_le (number_in_8 (field 7 8 file)) 4611686018427387904 ≡ true
  unfolding number_in_8
  first_generation = refl

new_header : (kind : Kind) (store_id : List ℕ) → length store_id ≡ 16 → IsHeader kind (GATE_OPEN ∷ new_bytes kind store_id)
new_header Tx store_id named = record {
  magic = refl;
  version = refl;
  kind_is = refl;
  generation = first_generation Tx store_id named;
  size = le-leb _ _ (omega (arith, no_snapshot Tx store_id named, size Tx store_id named));
}
new_header Rx store_id named = record {
  magic = refl;
  version = refl;
  kind_is = refl;
  generation = first_generation Rx store_id named;
  size = le-leb _ _ (omega (arith, no_snapshot Rx store_id named, size Rx store_id named));
}

pub new_tells : (kind : Kind) (store_id : List ℕ) → length store_id ≡ 16
    → tells kind (GATE_OPEN ∷ new_bytes kind store_id) (0 ∷ []) ≡ Ok (record { in_b = false; content = record { store_id = store_id; snapshot = []; records = [] } })
new_tells kind store_id named =
    let bytes = GATE_OPEN ∷ new_bytes kind store_id in
    let none = no_snapshot kind store_id named in
    let read : content_of kind bytes ≡ Ok (record { store_id = store_id; snapshot = []; records = [] }) =
    ap (content_by bytes) (header_passes kind bytes (new_header kind store_id named))
    ∙ (λ i. with_records (name_again kind store_id named i) (field 35 (none i) bytes) (records_of (length (drop (35 + none i) bytes)) (35 + none i) (drop (35 + none i) bytes)))
    ∙ ap (λ (l : List ℕ). with_records store_id [] (records_of (length l) 35 l)) (behind_header kind store_id named) in
    ap (told_in false) read
