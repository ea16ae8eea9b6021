-- A node goes on from the state before its watch.
use Rattle.std.proofs.Common.{◌≡◌, ◌∙◌, ℕ, List, Bool, take, sym, ap, take-append-drop}
use Rattle.std.proofs.Math.Seq.{take-length}
use Rattle.sig_journal.specs.Appended.{WritesOne}
use Rattle.sig_opening.proofs.TurnLemmas.{files_stay}
use Rattle.sig_receiver.specs.Receiver.{nothing, received_of}
use Rattle.sig_receiver.proofs.JournalLemmas.{joins}
use Rattle.sig_rxnode.specs.Holding.{IsHolding}
use Rattle.sig_rxnode.specs.Node.{IsHistory, NodeView, base_of, begun, files_told, since_of}
use Rattle.sig_rxend.specs.Ends.{Follows, IsOneHistory}

module _ {D : Type 0} where
  -- where a watch begins is the state
  begun_base : (told : D → Bool) (seen : D → List ℕ) (may_leave : D → List ℕ → Type 0) (node : NodeView D) → IsHolding told seen may_leave node.kept → base_of (begun node) ≡ node.kept.state
  begun_base told seen may_leave node holds = ap (λ (l : List (List ℕ)). received_of nothing l) (take-length node.kept.entries) ∙ sym holds.replays

  -- once its watch is opened
  pub opened_follows : (told : D → Bool) (seen : D → List ℕ) (may_leave : D → List ℕ → Type 0) (old opened : NodeView D) → IsHolding told seen may_leave old.kept → opened ≡ begun old
      → Follows told old opened
  opened_follows told seen may_leave old opened holds is = record {
    base = ap (λ (n : NodeView D). base_of n) is ∙ begun_base told seen may_leave old holds;
    rules = ap (λ (n : NodeView D). n.rules) is;
    files = ap (λ (n : NodeView D). files_told told n) is;
  }

  -- after a further turn
  pub turn_follows : (told : D → Bool) (before old new : NodeView D) → base_of new ≡ base_of old → new.rules ≡ old.rules → WritesOne told old.kept.store.journal new.kept.store.journal
      → Follows told before old → Follows told before new
  turn_follows told before old new base rules files follows = record {
    base = base ∙ follows.base;
    rules = rules ∙ follows.rules;
    files = files_stay told old.kept.store.journal new.kept.store.journal files ∙ follows.files;
  }

  pub one_history : (told : D → Bool) (seen : D → List ℕ) (may_leave : D → List ℕ → Type 0) (node : NodeView D) → IsHolding told seen may_leave node.kept → IsHistory node
      → IsOneHistory told seen may_leave node
  one_history told seen may_leave node holds history = record {
    turns = history;
    holds = holds;
    state = holds.replays ∙ ap (λ (l : List (List ℕ)). received_of nothing l) (sym (take-append-drop node.opened node.kept.entries)) ∙ joins nothing (take node.opened node.kept.entries) (since_of node);
  }
