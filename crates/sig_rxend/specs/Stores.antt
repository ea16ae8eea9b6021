-- What a receiver's store stands for.
use Rattle.std.specs.Prelude.{ℕ, List, [], ◌∷◌, Result}
use Rattle.sig_journal.specs.declared.fault.LoadFault.{LoadFault}
use Rattle.sig_journal.specs.declared.kind.Kind.TheVariants.{Rx}
use Rattle.sig_journal.specs.Store.{tells}
use Rattle.sig_journal.specs.Taking.{loaded}
use Rattle.sig_opening.specs.Stores.{Held}
use Rattle.sig_receiver.specs.Receiver.{Received, received_of}
use Rattle.sig_rxnode.specs.Node.{NodeView, first_file, second_file}
use Rattle.sig_rxnode.specs.Records.{receiving}
use Rattle.sig_rxnode.specs.declared.rules.RxRules.{RxRules}

-- what a receiver's store of these two files stands for, or where it is damaged
abbrev pub state_of : List ℕ → List ℕ → Result Received LoadFault
state_of a b = loaded receiving (tells Rx a b)

-- what is kept with one more token text
abbrev pub with_text : Received → List ℕ → Received
with_text state text = received_of state (text ∷ [])

-- what a node tells of its store
abbrev pub held_by : {D : Type 0} → NodeView D → Held D Received RxRules
held_by node = record { first = first_file node; second = second_file node; state = node.kept.state; rules = node.rules; broken_at = node.kept.store.broken_at }
