-- A node goes on from the state before its watch.
use Rattle.std.proofs.Common.{◌≡◌, ◌∙◌, ℕ, List, Bool, ap, sym}
use Rattle.sig_history.specs.Owed.{sum_of}
use Rattle.sig_journal.specs.Appended.{WritesOne}
use Rattle.sig_opening.proofs.TurnLemmas.{files_stay}
use Rattle.sig_terms.specs.declared.fact.Fact.{Fact}
use Rattle.sig_txnode.specs.Node.{IsNode, NodeView, begun, files_told}
use Rattle.sig_txnode.proofs.TurnLemmas.{turns_history}
use Rattle.sig_txend.specs.Ends.{Follows, IsOneHistory}

module _ {D : Type 0} where
  -- once its watch is opened
  pub opened_follows : (told : D → Bool) (old opened : NodeView D) → opened ≡ begun old → Follows told old opened
  opened_follows told old opened is = record {
    base = ap (λ (n : NodeView D). n.base) is;
    rules = ap (λ (n : NodeView D). n.rules) is;
    files = ap (λ (n : NodeView D). files_told told n) is;
  }

  -- after a further turn
  pub turn_follows : (told : D → Bool) (before old new : NodeView D) → new.base ≡ old.base → new.rules ≡ old.rules → WritesOne told old.store.journal new.store.journal
      → Follows told before old → Follows told before new
  turn_follows told before old new base rules files follows = record {
    base = base ∙ follows.base;
    rules = rules ∙ follows.rules;
    files = files_stay told old.store.journal new.store.journal files ∙ follows.files;
  }

  pub one_history : (told : D → Bool) (seen : D → List ℕ) (may_leave : D → List ℕ → Type 0) (now : NodeView D) → IsNode told seen may_leave now → IsOneHistory told seen may_leave now
  one_history told seen may_leave now node = record {
    node_kept = node;
    state = node.follows ∙ turns_history now.rules now.base now.turns node.whole ∙ ap (λ (l : List Fact). sum_of now.base l) (sym node.changes);
  }
