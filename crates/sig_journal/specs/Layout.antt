-- The layout of a journal's file: a header, a snapshot, and records after their gates. Numbers are big-endian.
--
--     offset   bytes   content
--     0        1       header gate
--     1        4       53 49 47 4a
--     5        1       version, 01
--     6        1       kind: 54 of a transmitter, 52 of a receiver
--     7        8       generation
--     15       16      name of the store
--     31       4       length n of the snapshot
--     35       n       snapshot
--     35 + n   1       gate of the first record
--
-- A record is its gate, its length m in four bytes and its payload of m bytes; after them stands the gate of the next.
use Rattle.std.specs.Prelude.{ℕ, zero, suc, ◌+◌, List, [], ◌∷◌, ◌++◌, length, take, drop, sum_by, Bool, false, ◌&&◌, ◌==◌, nat_eq, nat_le, nat_lt, Option, Some, None, Result, Ok, Err, if◌then◌else◌}
use Rattle.std.specs.Option.{option_map_or}
use Rattle.std.specs.Cmp.Lexicographic.{pointwise}
use Rattle.std.specs.Int.{from_be_bytes, to_be_bytes, w32, w64}
use Rattle.sig_json.specs.declared.limits.TheConstants.{LAST_NUMBER}
use Rattle.sig_json.specs.Checks.{Check, check, first_failing}
use Rattle.sig_journal.specs.declared.kind.Kind.{Kind}
use Rattle.sig_journal.specs.declared.kind.Kind.TheVariants.{Tx, Rx}
use Rattle.sig_journal.specs.declared.layout.TheConstants.{GATE_OPEN, MAGIC, VERSION}

abbrev pub kind_byte : Kind → ℕ
kind_byte Tx = 0x54
kind_byte Rx = 0x52

-- so many bytes from an offset on, or those that there are
abbrev pub field : ℕ → ℕ → List ℕ → List ℕ
field at count bytes = take count (drop at bytes)

-- the number in four bytes, or 0 where they are cut
unfoldable pub number_in_4 : List ℕ → ℕ
number_in_4 (a ∷ b ∷ c ∷ d ∷ []) = from_be_bytes w32 (a ∷ b ∷ c ∷ d ∷ [])
number_in_4 bytes = 0

-- the number in eight bytes, or 0 where they are cut
unfoldable pub number_in_8 : List ℕ → ℕ
number_in_8 (a ∷ b ∷ c ∷ d ∷ e ∷ f ∷ g ∷ h ∷ []) = from_be_bytes w64 (a ∷ b ∷ c ∷ d ∷ e ∷ f ∷ g ∷ h ∷ [])
number_in_8 bytes = 0

abbrev pub is_open : List ℕ → Bool
is_open [] = false
is_open (gate ∷ bytes) = gate == GATE_OPEN

abbrev pub generation_of : List ℕ → ℕ
generation_of bytes = number_in_8 (field 7 8 bytes)

abbrev pub snapshot_length : List ℕ → ℕ
snapshot_length bytes = number_in_4 (field 31 4 bytes)

-- the fields of the header in order, each at its offset: it is whole and has a value that it may have
abbrev pub header_checks : Kind → List ℕ → List (Check ℕ)
header_checks kind bytes =
    check 1 (pointwise nat_eq (field 1 4 bytes) MAGIC)
    ∷ check 5 (pointwise nat_eq (field 5 1 bytes) (VERSION ∷ []))
    ∷ check 6 (pointwise nat_eq (field 6 1 bytes) (kind_byte kind ∷ []))
    ∷ check 7 (nat_le 15 (length bytes) && nat_le (generation_of bytes) LAST_NUMBER)
    ∷ check 15 (nat_le 31 (length bytes))
    ∷ check 31 (nat_le 35 (length bytes))
    ∷ check 35 (nat_le (35 + snapshot_length bytes) (length bytes))
    ∷ []

-- the payload length of the record whose gate stands first
abbrev pub record_length : List ℕ → ℕ
record_length bytes = number_in_4 (field 1 4 bytes)

-- the record whose gate stands first: its payload, and the bytes from the next gate on; none where length, payload or next gate are cut
abbrev pub record_at : List ℕ → Option (List ℕ × List ℕ)
record_at bytes =
    if nat_lt (5 + record_length bytes) (length bytes)
    then Some (field 5 (record_length bytes) bytes, drop (5 + record_length bytes) bytes)
    else None

-- a payload before these records, or where they are damaged
abbrev pub before_records : List ℕ → Result (List (List ℕ)) ℕ → Result (List (List ℕ)) ℕ
before_records payload (Ok records) = Ok (payload ∷ records)
before_records payload (Err at) = Err at

-- the records from this place in the file on, whose first gate stands first in these bytes, or the place of the gate at which they are damaged: it stands too far, it is cut, or it is open and its record is cut; there are at most as many as bytes
abbrev pub records_of : ℕ → ℕ → List ℕ → Result (List (List ℕ)) ℕ
records_of zero place bytes = Err place
records_of (suc fuel) place [] = Err place
records_of (suc fuel) place (gate ∷ rest) =
    if nat_le LAST_NUMBER place then Err place
    else (if gate == GATE_OPEN
    then option_map_or (λ found. before_records found.0 (records_of fuel (place + 5 + length found.0) found.1)) (record_at (gate ∷ rest)) (Err place)
    else Ok [])

-- what a file holds after its header gate
pub record Content : Type 0 where
  pub store_id : List ℕ
  pub snapshot : List ℕ
  pub records : List (List ℕ)

abbrev pub with_records : List ℕ → List ℕ → Result (List (List ℕ)) ℕ → Result Content ℕ
with_records store_id snapshot (Ok records) = Ok (record { store_id = store_id; snapshot = snapshot; records = records })
with_records store_id snapshot (Err at) = Err at

abbrev pub content_by : List ℕ → Option ℕ → Result Content ℕ
content_by bytes (Some at) = Err at
content_by bytes None =
    with_records (field 15 16 bytes) (field 35 (snapshot_length bytes) bytes)
    (records_of (length (drop (35 + snapshot_length bytes) bytes)) (35 + snapshot_length bytes) (drop (35 + snapshot_length bytes) bytes))

-- what the bytes of a file tell whose header gate is open, or the offset at which they are damaged
abbrev pub content_of : Kind → List ℕ → Result Content ℕ
content_of kind bytes = content_by bytes (first_failing (header_checks kind bytes))

-- bytes of so many records
abbrev pub records_size : List (List ℕ) → ℕ
records_size records = sum_by (λ payload. 5 + length payload) records

-- the place after the last gate
abbrev pub end_of : Content → ℕ
end_of content = 36 + length content.snapshot + records_size content.records

-- the bytes of a record after its gate, and the closed gate of the next
abbrev pub framed_bytes : List ℕ → List ℕ
framed_bytes payload = to_be_bytes w32 (length payload) ++ payload ++ 0 ∷ []

-- the file of a new store after its header gate: its first generation, without snapshot and record
abbrev pub new_bytes : Kind → List ℕ → List ℕ
new_bytes kind store_id =
    MAGIC ++ VERSION ∷ kind_byte kind ∷ 0 ∷ 0 ∷ 0 ∷ 0 ∷ 0 ∷ 0 ∷ 0 ∷ 0 ∷ [] ++ store_id ++ 0 ∷ 0 ∷ 0 ∷ 0 ∷ 0 ∷ []

-- the size of the first file that isn't empty
abbrev pub first_size : List ℕ → List ℕ → Option ℕ
first_size [] [] = None
first_size [] (byte ∷ b) = Some (length (byte ∷ b))
first_size (byte ∷ a) b = Some (length (byte ∷ a))

-- the places of the gates of these records, the first of which is this
abbrev pub places_of : ℕ → List (List ℕ) → List ℕ
places_of place [] = []
places_of place (payload ∷ records) = place ∷ places_of (place + 5 + length payload) records
