-- What the taker of a link's turns tells, and what a turn makes of it.
use Rattle.std.specs.Prelude.{◌≡◌, ℕ, Bool, List, Option, Some, None, Result}
use Rattle.sig_receiver.specs.Receiver.{Received}
use Rattle.sig_journal.specs.declared.node_fault.NodeFault.{NodeFault}
use Rattle.sig_rxnode.specs.declared.answer.RxAnswer.{RxAnswer}
use Rattle.sig_rxnode.specs.declared.call.RxCall.{RxCall}
use Rattle.sig_rxnode.specs.declared.rules.RxRules.{RxRules}
use Rattle.sig_rxnode.specs.declared.turn.RxTurn.{RxTurn}
use Rattle.sig_rxnode.specs.Turns.{with_turn}

-- the turns that were kept, in order, what was kept of tokens before the first of them, the settings by which they were
-- answered, and whether the first and the second file of the store are told
pub record RxTold : Type 0 where
  pub turns : List RxTurn
  pub base : Received
  pub rules : RxRules
  pub files : Bool × Bool

-- where they are told: they are longer by just this turn, unless it was refused memory, and all else stays; a taker that
-- tells nothing goes on telling nothing
abbrev pub TakesTurn : Option RxTold → Option RxTold → ℕ → RxCall → Result RxAnswer NodeFault → Type 0
TakesTurn None new link call result = new ≡ None
TakesTurn (Some old) new link call result = new ≡ Some (record old { turns = with_turn old.turns link call result })
