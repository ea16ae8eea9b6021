-- A node as contracts see it.
use Rattle.std.specs.Prelude.{◌≡◌, ◌≤◌, ℕ, List, [], Bool, None, length, take, drop}
use Rattle.sig_journal.specs.declared.kind.Kind.TheVariants.{Rx}
use Rattle.sig_journal.specs.Store.{pick}
use Rattle.sig_receiver.specs.Receiver.{Received, nothing, received_of}
use Rattle.sig_set.specs.declared.trust.Trust.{Trust}
use Rattle.sig_rxnode.specs.declared.rules.RxRules.{RxRules}
use Rattle.sig_rxnode.specs.declared.turn.RxTurn.{RxTurn}
use Rattle.sig_rxnode.specs.Holding.{Holding, IsHolding}
use Rattle.sig_rxnode.specs.Turns.{AreTrue, BrokeAt, after_turns, changes_of, ends_after}

-- what it holds, its settings, and since it was loaded or its watch was opened: the turns, and how many texts stood in the
-- journal before them
pub record NodeView (D : Type 0) : Type 0 where
  pub kept : Holding D
  pub rules : RxRules
  pub turns : List RxTurn
  pub opened : ℕ

abbrev pub kept_by : {D : Type 0} → NodeView D → Holding D
kept_by node = node.kept

-- what was kept then
abbrev pub base_of : {D : Type 0} → NodeView D → Received
base_of node = received_of nothing (take node.opened node.kept.entries)

-- the texts that were added since
abbrev pub since_of : {D : Type 0} → NodeView D → List (List ℕ)
since_of node = drop node.opened node.kept.entries

-- the two files of its store, the first and the second
abbrev pub first_file : {D : Type 0} → NodeView D → D
first_file node = pick node.kept.store.journal.in_b node.kept.store.journal.written node.kept.store.journal.other

abbrev pub second_file : {D : Type 0} → NodeView D → D
second_file node = pick node.kept.store.journal.in_b node.kept.store.journal.other node.kept.store.journal.written

-- whether they are told
abbrev pub files_told : {D : Type 0} → (D → Bool) → NodeView D → Bool × Bool
files_told told node = (told (first_file node), told (second_file node))

-- the turns are one history from what was kept then to what is kept now, with just these texts, over a journal that ended at
-- `first` before them; and the store failed in the turn that it says, if in any
pub record IsHistory {D : Type 0} (node : NodeView D) : Type 0 where
  pub within : node.opened ≤ length node.kept.entries
  pub changes : since_of node ≡ changes_of node.rules.trust (base_of node) node.turns
  pub follows : node.kept.state ≡ after_turns node.rules.trust (base_of node) node.turns
  pub first : ℕ
  pub ends : node.kept.store.broken_at ≡ None → node.kept.store.journal.end ≡ ends_after first (since_of node)
  pub answers : AreTrue node.rules.trust (base_of node) first node.turns
  pub broke : BrokeAt node.kept.store.broken_at node.turns
  pub kind : node.kept.store.journal.kind ≡ Rx

-- what it holds is that of its tokens and its store, its turns are a history, and the trust by which it judges is that of its
-- settings
pub record IsNode {D : Type 0} (told : D → Bool) (seen : D → List ℕ) (may_leave : D → List ℕ → Type 0) (node : NodeView D) (trust : Trust) : Type 0 where
  pub holds : IsHolding told seen may_leave node.kept
  pub trusts : trust ≡ node.rules.trust
  pub history : IsHistory node

-- a node whose watch was just opened: all its texts stood before, and there is no turn since
abbrev pub begun : {D : Type 0} → NodeView D → NodeView D
begun node = record node { opened = length node.kept.entries; turns = [] }
