-- What holds of the bytes of states.
use Rattle.std.specs.Prelude.{◌≡◌, ◌<◌, ◌^◌, List, length, true, All}
use Rattle.sig_fields.specs.Agreeing.{IsProperMaybe, IsProperText}
use Rattle.sig_fields.specs.Whole.{IsExact}
use Rattle.sig_inbox.specs.declared.pair.Pair.{Pair}
use Rattle.sig_inbox.specs.Pairs as pairs
use Rattle.sig_sessions.specs.declared.row.Row.{Row}
use Rattle.sig_sessions.specs.Table as table
use Rattle.sig_entry.specs.Proper.{IsShortSubject}
use Rattle.sig_rxstate.specs.State.{decoded, spelling_of}

abbrev pub IsProperPair : Pair → Type 0
IsProperPair p = IsProperText p.iss × IsProperText p.jti

-- a proper subject and a level, each with a text of fewer than 2^32 bytes
abbrev pub IsProperRow : Row → Type 0
IsProperRow r = IsShortSubject r.subject × IsProperMaybe IsProperText r.level

-- fewer than 2^64 pairs, each once
pub record AreProperPairs (ps : List Pair) : Type 0 where
  pub each : All IsProperPair ps
  pub short : length ps < 2 ^ 64
  pub distinct : pairs.are_distinct ps ≡ true

-- fewer than 2^64 rows, no two of them of identical subjects
pub record AreProperRows (rows : List Row) : Type 0 where
  pub each : All IsProperRow rows
  pub short : length rows < 2 ^ 64
  pub distinct : table.are_distinct rows ≡ true

abbrev pub IsProperState : List Pair × List Row → Type 0
IsProperState state = AreProperPairs state.0 × AreProperRows state.1

-- ---- the laws

-- a proper state is decoded of its spelling; what is decoded is proper, and the bytes are its spelling; and no spelling begins with another
abbrev pub StatesAreExact : Type 0
StatesAreExact = IsExact IsProperState spelling_of decoded

-- states of one spelling are one state
abbrev pub SpellingsDiffer : Type 0
SpellingsDiffer = (one other : List Pair × List Row) → IsProperState one → IsProperState other → spelling_of one ≡ spelling_of other → one ≡ other
