-- What the taker of a link's turns tells, and what a turn makes of it.
use Rattle.std.specs.Prelude.{◌≡◌, ℕ, Bool, List, Option, Some, None, Result}
use Rattle.sig_terms.specs.declared.answer.Answer.{Answer}
use Rattle.sig_terms.specs.declared.call.Call.{Call}
use Rattle.sig_terms.specs.declared.rules.Rules.{Rules}
use Rattle.sig_history.specs.Owed.{Sum}
use Rattle.sig_journal.specs.declared.node_fault.NodeFault.{NodeFault}
use Rattle.sig_txnode.specs.declared.turn.Turn.{Turn}
use Rattle.sig_txnode.specs.Turns.{with_turn}

-- the turns that were kept, in order, the state before the first of them, the rules by which they were answered, and whether
-- the first and the second file of the store are told
pub record TakerTold : Type 0 where
  pub turns : List Turn
  pub base : Sum
  pub rules : Rules
  pub files : Bool × Bool

-- where they are told: they are longer by just this turn, unless it was refused memory, and all else stays; a taker that
-- tells nothing goes on telling nothing
abbrev pub KeepsTurn : Option TakerTold → Option TakerTold → ℕ → Call → ℕ → Result Answer NodeFault → Type 0
KeepsTurn None new link call now result = new ≡ None
KeepsTurn (Some old) new link call now result = new ≡ Some (record old { turns = with_turn old.turns link call now result })
