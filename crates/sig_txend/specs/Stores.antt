-- What a transmitter's store stands for.
use Rattle.std.specs.Prelude.{ℕ, List, [], ◌∷◌, Result}
use Rattle.sig_journal.specs.declared.fault.LoadFault.{LoadFault}
use Rattle.sig_journal.specs.declared.kind.Kind.TheVariants.{Tx}
use Rattle.sig_journal.specs.Store.{tells}
use Rattle.sig_journal.specs.Taking.{loaded}
use Rattle.sig_history.specs.Owed.{Sum, sum_of}
use Rattle.sig_opening.specs.Stores.{Held}
use Rattle.sig_terms.specs.declared.fact.Fact.{Fact}
use Rattle.sig_terms.specs.declared.rules.Rules.{Rules}
use Rattle.sig_txnode.specs.Node.{NodeView, first_file, second_file}
use Rattle.sig_txnode.specs.Records.{sending}

-- the state that a transmitter's store of these two files stands for, or where it is damaged
abbrev pub state_of : List ℕ → List ℕ → Result Sum LoadFault
state_of a b = loaded sending (tells Tx a b)

-- a state with one more fact
abbrev pub with_fact : Sum → Fact → Sum
with_fact state fact = sum_of state (fact ∷ [])

-- what a node tells of its store
abbrev pub held_by : {D : Type 0} → NodeView D → Held D Sum Rules
held_by node = record { first = first_file node; second = second_file node; state = node.state; rules = node.rules; broken_at = node.store.broken_at }
