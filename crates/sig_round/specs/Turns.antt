-- The turns that a link makes, in its own log and in the taker's.
use Rattle.std.specs.Prelude.{◌≡◌, ◌<◌, ℕ, List, [], ◌∷◌, ◌++◌, Option, Some, None, IsErrOf, vec_capacity, vec_len}
use Rattle.sig_journal.specs.declared.node_fault.NodeFault.TheVariants.{Memory}
use Rattle.sig_terms.specs.declared.call.Call.{Call}
use Rattle.sig_txnode.specs.Answering.{time_used}
use Rattle.sig_txnode.specs.Told.{TakerTold}
use Rattle.sig_txnode.specs.declared.turn.Turn.{Turn}
use Rattle.sig_round.specs.declared.log.TurnLog.{TurnLog}

-- who asks a call: a link, by its number, at the time of its request
pub record Asker : Type 0 where
  pub link : ℕ
  pub now : ℕ

-- it is the turn of this call, asked by that link at that time, and it wasn't refused memory
pub record IsTurnOf (by : Asker) (call : Call) (turn : Turn) : Type 0 where
  pub asked : turn ≡ record { link = by.link; call = call; now = time_used by.now; result = turn.result }
  pub kept : IsErrOf turn.result Memory → ⊥

-- where a taker tells its turns, they are longer by these; one that tells nothing goes on so
abbrev pub Grew : Option TakerTold → Option TakerTold → List Turn → Type 0
Grew None new more = new ≡ None
Grew (Some old) new more = new ≡ Some (record old { turns = old.turns ++ more })

-- these turns were made: a log is longer by just them, and so is what the taker tells
pub record Adds (more turns turns' : List Turn) (told told' : Option TakerTold) : Type 0 where
  pub log : turns' ≡ turns ++ more
  pub taker : Grew told told' more

-- the turn of this call was made, and no other
abbrev pub AddsTurnOf : Asker → Call → List Turn → List Turn → Option TakerTold → Option TakerTold → Type 0
AddsTurnOf by call turns turns' told told' = (turn : Turn) × IsTurnOf by call turn × Adds (turn ∷ []) turns turns' told told'

-- there is room in a log for one turn more
abbrev pub HasRoom : TurnLog → Type 0
HasRoom log = vec_len log.turns < vec_capacity log.turns
