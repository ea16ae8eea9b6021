-- A transmitter's node over a store in memory: what it holds, and what becomes of a call while its disk stands still.
use Rattle.std.specs.Prelude.{◌≡◌, ℕ, List, Bool, false, Option, Some, None, Result, Ok, Err}
use Rattle.sig_terms.specs.declared.answer.Answer.{Answer}
use Rattle.sig_terms.specs.declared.call.Call.{Call}
use Rattle.sig_terms.specs.declared.fact.Fact.{Fact}
use Rattle.sig_terms.specs.declared.rules.Rules.{Rules}
use Rattle.sig_history.specs.Owed.{Sum, empty_sum, sum_of}
use Rattle.sig_calls.specs.Table.{change_of}
use Rattle.sig_journal.specs.declared.kind.Kind.TheVariants.{Tx}
use Rattle.sig_journal.specs.Store.{pick, tells}
use Rattle.sig_outside.specs.KeptDisk.{Kept}
use Rattle.sig_journal.specs.Taking.{loaded}
use Rattle.sig_journal.specs.declared.node_fault.NodeFault.{NodeFault}
use Rattle.sig_still.specs.Still.{is_short, rest}
use Rattle.sig_still.specs.Stores.{HoldsStore, end_at, store_of, with_kept}
use Rattle.sig_txnode.specs.Answering.{answer_at, time_used}
use Rattle.sig_txnode.specs.Node.{NodeView}
use Rattle.sig_txnode.specs.Records.{sending}
use Rattle.sig_nodes.specs.Records.{fact_records}
use Rattle.sig_nodes.specs.declared.halted.Halted.{Halted}
use Rattle.sig_nodes.specs.declared.halted.Halted.TheVariants.{Answered, Crashed}

-- what the facts come to over a new store of this name
abbrev pub sum_at : List ℕ → List Fact → Sum
sum_at name facts = sum_of (empty_sum name) facts

-- it holds these facts, and stands for what they come to
pub record TxAt (rules : Rules) (name : List ℕ) (node : NodeView Kept) (facts : List Fact) : Type 0 where
  pub rules_are : node.rules ≡ rules
  pub state : node.state ≡ sum_at name facts
  pub kind : node.store.journal.kind ≡ Tx
  pub holds : HoldsStore name (fact_records facts) node.store
  pub loads : loaded sending (Ok (store_of name (fact_records facts))) ≡ Ok (sum_at name facts)

-- what a crash leaves of it holds these facts, and stands for what they come to
pub record TxRests (name : List ℕ) (node : NodeView Kept) (facts : List Fact) : Type 0 where
  pub told : tells Tx (rest (pick node.store.journal.in_b node.store.journal.written node.store.journal.other)) (rest (pick node.store.journal.in_b node.store.journal.other node.store.journal.written)) ≡ Ok (store_of name (fact_records facts))
  pub loads : loaded sending (Ok (store_of name (fact_records facts))) ≡ Ok (sum_at name facts)

-- how a call is answered over these facts, unless a disk fails
abbrev pub tx_told : Rules → List ℕ → List Fact → Call → ℕ → Result Answer NodeFault
tx_told rules name facts c now = answer_at rules (sum_at name facts) (end_at name (fact_records facts)) c (time_used now)

-- the fact that it makes
abbrev pub tx_change : Rules → List ℕ → List Fact → Call → ℕ → Option Fact
tx_change rules name facts c now = change_of rules (sum_at name facts) c (time_used now)

-- a call that makes a fact and would be answered, but for the disk
pub record MakesFact (rules : Rules) (name : List ℕ) (facts : List Fact) (c : Call) (now : ℕ) : Type 0 where
  pub fact : Fact
  pub answer : Answer
  pub change : tx_change rules name facts c now ≡ Some fact
  pub told : tx_told rules name facts c now ≡ Ok answer

-- what became of it: it makes no fact, and is answered; or the node was loaded from what its disk rested with, with the fact or without it
abbrev pub TxHalted : Rules → List ℕ → List Fact → Call → ℕ → Bool → NodeView Kept → Halted Answer → Type 0
TxHalted rules name facts c now keeps node (Answered answer) =
    (tx_change rules name facts c now ≡ None) × (tx_told rules name facts c now ≡ Ok answer) × TxAt rules name node facts
TxHalted rules name facts c now keeps node (Crashed kept) =
    (makes : MakesFact rules name facts c now) × (kept ≡ keeps) × TxAt rules name node (with_kept keeps facts makes.fact)

-- a call was made while the disk stood still: it makes no fact, and is answered; or what a crash now leaves has the fact or doesn't, unless the disk got short of memory
abbrev pub TxTaken : Rules → List ℕ → List Fact → Call → ℕ → Bool → NodeView Kept → Option Answer → Type 0
TxTaken rules name facts c now keeps node (Some answer) =
    (tx_change rules name facts c now ≡ None) × (tx_told rules name facts c now ≡ Ok answer) × TxAt rules name node facts
TxTaken rules name facts c now keeps node None =
    (makes : MakesFact rules name facts c now) × (is_short node.store.journal.written ≡ false → TxRests name node (with_kept keeps facts makes.fact))
