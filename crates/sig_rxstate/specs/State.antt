-- The bytes of a receiver's state, version 1: 02, the pairs in order, and the rows in order.
use Rattle.std.specs.Prelude.{◌==◌, ℕ, List, ◌++◌, Bool, true, Option, Some, None, Result, if◌then◌else◌}
use Rattle.sig_fields.specs.declared.fault.DecodeFault.{DecodeFault}
use Rattle.sig_fields.specs.Kinds as kinds
use Rattle.sig_fields.specs.Reading.{given, ruled, ◌>>=◌}
use Rattle.sig_fields.specs.Whole.{whole}
use Rattle.sig_inbox.specs.declared.pair.Pair.{Pair}
use Rattle.sig_inbox.specs.Pairs.{has_pair}
use Rattle.sig_sessions.specs.declared.row.Row.{Row}
use Rattle.sig_rxstate.specs.Lists as lists
use Rattle.sig_rxstate.specs.Parts.{has_subject, pair, pair_bytes, row, row_bytes}

-- the one kind of a receiver's snapshots
abbrev pub kind_in : ℕ → Option Bool
kind_in b = if b == 2 then Some true else None

abbrev pub spelling_of : List Pair × List Row → List ℕ
spelling_of state = kinds.byte_bytes 2 ++ lists.list_bytes pair_bytes state.0 ++ lists.list_bytes row_bytes state.1

abbrev pub read_pairs : List ℕ → Result (List Pair × List ℕ) (List ℕ)
read_pairs = lists.list has_pair pair

abbrev pub read_rows : List ℕ → Result (List Row × List ℕ) (List ℕ)
read_rows = lists.list has_subject row

abbrev pub read_state : List ℕ → Result ((List Pair × List Row) × List ℕ) (List ℕ)
read_state = do
  is_state ← ruled kind_in kinds.byte
  pairs ← read_pairs
  rows ← read_rows
  given (pairs, rows)

-- the pairs and rows that bytes spell, or the offset of the first part that is cut or breaks its rule; where there is none and bytes follow
-- the last field, that of the first byte after it
abbrev pub decoded : List ℕ → Result (List Pair × List Row) DecodeFault
decoded = whole read_state
