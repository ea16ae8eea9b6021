-- A file's header gate, and what a file shows while it is written.
use Rattle.std.specs.Prelude.{◌≡◌, ℕ, zero, suc, List, ◌∷◌, drop, Bool, true, false, ◌&&◌, nat_eq, MatchBool}
use Rattle.sig_journal.specs.declared.gate.Gate.{Gate}
use Rattle.sig_journal.specs.declared.gate.Gate.TheVariants.{NoByte, Closed, Opened}
use Rattle.sig_journal.specs.declared.layout.TheConstants.{GATE_OPEN}
use Rattle.sig_journal.specs.Store.{gate_of}

-- a file begins with a gate, which is open or not
abbrev pub BeginsOpen : Bool → Gate → Type 0
BeginsOpen is_open NoByte = ⊥
BeginsOpen is_open Closed = is_open ≡ false
BeginsOpen is_open (Opened generation) = is_open ≡ true

-- a file begins with a closed gate
abbrev pub IsShut : List ℕ → Type 0
IsShut bytes = gate_of bytes ≡ Closed

-- the file with another header gate
abbrev pub with_gate : ℕ → List ℕ → List ℕ
with_gate gate bytes = gate ∷ drop 1 bytes

-- an image is the file with any header gate
abbrev pub WithAnyGate : List ℕ → List ℕ → Type 0
WithAnyGate before image = (gate : ℕ) × (image ≡ with_gate gate before)

-- what a disk rests with that stands still before a gate was written and synced: the file as it was, or once the write was made, the file with the fill as its gate
abbrev pub GateRests : List ℕ → ℕ → ℕ → List ℕ → Type 0
GateRests before zero fill image = image ≡ before
GateRests before (suc calls) fill image = image ≡ with_gate fill before

-- the same where the gate was closed and is opened: it is open where the write was made and the fill opens it
abbrev pub OpeningRests : List ℕ → ℕ → ℕ → List ℕ → Type 0
OpeningRests before calls fill image = MatchBool (nat_eq calls 1 && nat_eq fill GATE_OPEN) (image ≡ with_gate GATE_OPEN before) (IsShut image)

-- calls of the device by which a gate is closed that is open or not
abbrev pub closing_calls : Bool → ℕ
closing_calls true = 2
closing_calls false = 0
