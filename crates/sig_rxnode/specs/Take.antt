-- What a node does with a call.
use Rattle.std.specs.Prelude.{◌≡◌, ◌⊎◌, ℕ, ◌+◌, List, length, true, None, is_some, Result, Err, IfOk, IsErrOf}
use Rattle.sig_journal.specs.declared.node_fault.NodeFault.{NodeFault}
use Rattle.sig_journal.specs.declared.node_fault.NodeFault.TheVariants.{Store, Memory}
use Rattle.sig_rxnode.specs.declared.answer.RxAnswer.{RxAnswer}
use Rattle.sig_rxnode.specs.declared.call.RxCall.{RxCall}
use Rattle.sig_rxnode.specs.declared.turn.RxTurn.{RxTurn}
use Rattle.sig_rxnode.specs.Answers.{answer_of, change_of}
use Rattle.sig_rxnode.specs.Journals.{Adds, Causes}
use Rattle.sig_rxnode.specs.Node.{NodeView}
use Rattle.sig_rxnode.specs.Turns.{with_turn}

-- the token texts that a call adds to the journal of a node
abbrev pub added_by : {D : Type 0} → NodeView D → RxCall → List (List ℕ)
added_by node call = change_of node.rules.trust node.kept.state call

-- the answer is that of the table, and what is kept is by the texts that the call adds; the settings stay
pub record Answered {D : Type 0} (call : RxCall) (old new : NodeView D) (result : Result RxAnswer NodeFault) : Type 0 where
  pub answer : IfOk result (λ told. told ≡ answer_of old.rules.trust old.kept.state call)
  pub adds : Adds (added_by old call) old.kept new.kept result
  pub rules : new.rules ≡ old.rules

-- a turn is kept last, but at want of memory
abbrev pub KeepsTurn : List RxTurn → List RxTurn → ℕ → RxCall → Result RxAnswer NodeFault → Type 0
KeepsTurn old new link call result = new ≡ with_turn old link call result

-- why a call is refused: a broken node answers so until it is loaded again; want of memory changes nothing
pub record Refused {D : Type 0} (faults : D → ℕ) (call : RxCall) (old new : NodeView D) (result : Result RxAnswer NodeFault) : Type 0 where
  pub broken : is_some old.kept.store.broken_at ≡ true → ((result ≡ Err Store) ⊎ (result ≡ Err Memory)) × (new.kept ≡ old.kept)
  pub causes : old.kept.store.broken_at ≡ None → Causes faults (added_by old call) (length old.turns + 1) old.kept new.kept result
  pub memory : IsErrOf result Memory → new ≡ old
