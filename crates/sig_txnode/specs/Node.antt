-- A transmitter's node, as contracts see it.
use Rattle.std.specs.Prelude.{◌≡◌, ℕ, List, [], Bool, None}
use Rattle.sig_terms.specs.declared.fact.Fact.{Fact}
use Rattle.sig_terms.specs.declared.rules.Rules.{Rules}
use Rattle.sig_history.specs.Owed.{Sum}
use Rattle.sig_history.specs.Whole.{IsWhole}
use Rattle.sig_calls.specs.Proper.{IsProperRules}
use Rattle.sig_journal.specs.declared.kind.Kind.TheVariants.{Tx}
use Rattle.sig_journal.specs.Store.{pick}
use Rattle.sig_journal.specs.Standing.{StandsFor}
use Rattle.sig_journal.specs.Stored.{Stored}
use Rattle.sig_txnode.specs.declared.turn.Turn.{Turn}
use Rattle.sig_txnode.specs.Records.{sending}
use Rattle.sig_txnode.specs.Turns.{AreTrue, BrokeAt, after_turns, changes_of, ends_after}

-- its store, the rules by which it answers, its state, and since it was loaded or its watch was opened: the state then, the
-- changes and the turns
pub record NodeView (D : Type 0) : Type 0 where
  pub store : Stored D
  pub rules : Rules
  pub state : Sum
  pub base : Sum
  pub entries : List Fact
  pub turns : List Turn

-- the two files of its store, the first and the second
abbrev pub first_file : {D : Type 0} → NodeView D → D
first_file node = pick node.store.journal.in_b node.store.journal.written node.store.journal.other

abbrev pub second_file : {D : Type 0} → NodeView D → D
second_file node = pick node.store.journal.in_b node.store.journal.other node.store.journal.written

-- whether they are told
abbrev pub files_told : {D : Type 0} → (D → Bool) → NodeView D → Bool × Bool
files_told told node = (told (first_file node), told (second_file node))

-- what every node keeps to: the turns are one history from the base to the state, with just these entries, over a journal that
-- ended at `first` before them; its store stands for the state, and failed in the turn that it says, if in any
pub record IsNode {D : Type 0} (told : D → Bool) (seen : D → List ℕ) (may_leave : D → List ℕ → Type 0) (node : NodeView D) : Type 0 where
  pub proper : IsProperRules node.rules
  pub whole : IsWhole node.base
  pub whole_now : IsWhole node.state
  pub follows : node.state ≡ after_turns node.rules node.base node.turns
  pub changes : node.entries ≡ changes_of node.rules node.base node.turns
  pub first : ℕ
  pub ends : node.store.broken_at ≡ None → node.store.journal.end ≡ ends_after first node.entries
  pub answers : AreTrue node.rules node.base first node.turns
  pub broke : BrokeAt node.store.broken_at node.turns
  pub kind : node.store.journal.kind ≡ Tx
  pub stands : StandsFor sending told seen may_leave node.store node.state

-- a node whose watch was just opened: its state is its base, and there is no turn and no entry since
abbrev pub begun : {D : Type 0} → NodeView D → NodeView D
begun node = record node { base = node.state; entries = []; turns = [] }
