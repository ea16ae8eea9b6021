-- A tick over a transmitter's node.
use Rattle.std.specs.Prelude.{◌≡◌, ℕ, List, ◌++◌, Result, IfOk}
use Rattle.sig_courier.specs.Schedule.{IsLogged, Kept}
use Rattle.sig_courier.specs.declared.attempt.Attempt.{Attempt}
use Rattle.sig_journal.specs.declared.node_fault.NodeFault.{NodeFault}
use Rattle.sig_json.specs.Answers.{result_map}
use Rattle.sig_links.specs.Views.{SideView}
use Rattle.sig_txnode.specs.Node.{NodeView}
use Rattle.sig_tick.specs.Ticking.{IsTick, TellsTime, ticking}

-- a watch of the node was opened for the tick, and its turns are those of the tick; the attempts are noted, by any log that the
-- schedule stands for, and at Ok they are the answer
pub record Ticked {D : Type 0} (before after : SideView) (old new : NodeView D) (kept kept' : Kept) (result : Result (List Attempt) NodeFault) : Type 0 where
  pub base : new.base ≡ old.state
  pub rules : new.rules ≡ old.rules
  pub now : ℕ
  pub began : SideView
  pub time : TellsTime before began now
  pub made : List Attempt
  pub given : IfOk result (λ attempts. attempts ≡ made)
  pub notes : (log : List Attempt) → IsLogged kept log → IsLogged kept' (log ++ made)
  pub tick : (log : List Attempt) → IsLogged kept log → IsTick old.rules (ticking now) log began after new.turns made (result_map (λ attempts. tt) result)
