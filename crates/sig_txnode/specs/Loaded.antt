-- What a load gives of a transmitter's store.
use Rattle.std.specs.Prelude.{◌≡◌, ◌⊎◌, ℕ, List, [], Bool, None, Result, Ok, Err}
use Rattle.sig_journal.specs.declared.fault.LoadFault.{LoadFault}
use Rattle.sig_journal.specs.declared.fault.LoadFault.TheVariants.{Memory, Store}
use Rattle.sig_journal.specs.declared.kind.Kind.TheVariants.{Tx}
use Rattle.sig_journal.specs.declared.loaded.Loaded.{Loaded}
use Rattle.sig_journal.specs.declared.loaded.LoadRefused.{LoadRefused}
use Rattle.sig_journal.specs.Journal.{IsAtRest}
use Rattle.sig_journal.specs.Store.{Told}
use Rattle.sig_terms.specs.declared.rules.Rules.{Rules}
use Rattle.sig_history.specs.Owed.{Sum}
use Rattle.sig_txnode.specs.Node.{NodeView}

-- it is the state that the store stands for, or the fault that the store has, unless a disk failed or memory ran out
abbrev pub GivesState : Result Sum LoadFault → Result Sum LoadFault → Type 0
GivesState told (Ok state) = told ≡ Ok state
GivesState told (Err fault) = (fault ≡ Memory) ⊎ (fault ≡ Store) ⊎ (told ≡ Err fault)

-- a node that was just loaded: no turn was taken, and its store isn't broken
pub record Begins {D : Type 0} (told : D → Bool) (seen : D → List ℕ) (may_leave : D → List ℕ → Type 0) (rules : Rules) (node : NodeView D) : Type 0 where
  pub same_rules : node.rules ≡ rules
  pub base : node.base ≡ node.state
  pub entries : node.entries ≡ []
  pub turns : node.turns ≡ []
  pub kind : node.store.journal.kind ≡ Tx
  pub whole : node.store.broken_at ≡ None
  pub rests : IsAtRest told seen may_leave node.store.journal

-- what a load gave: the state, or the fault
abbrev pub state_by : {D : Type 0} → Result (NodeView D) (LoadRefused D) → Result Sum LoadFault
state_by (Ok node) = Ok node.state
state_by (Err refused) = Err refused.fault

-- what a store tells that was loaded
abbrev pub told_of : {D : Type 0} → Loaded D → Told
told_of l = record { in_b = l.journal.in_b; content = record { store_id = l.store_id; snapshot = l.snapshot; records = l.records } }
