-- What a watch makes of a transmitter's node.
use Rattle.std.specs.Prelude.{◌≡◌, ℕ, List, Bool}
use Rattle.sig_history.specs.Owed.{sum_of}
use Rattle.sig_txnode.specs.Node.{IsNode, NodeView, files_told}

-- its base is the state of that node; its rules, and whether its files are told, stay
pub record Follows {D : Type 0} (told : D → Bool) (old new : NodeView D) : Type 0 where
  pub base : new.base ≡ old.state
  pub rules : new.rules ≡ old.rules
  pub files : files_told told new ≡ files_told told old

-- the node's turns are one history from its base, by the rules; its state is what the base comes to with its entries, and its
-- store stands for it
pub record IsOneHistory {D : Type 0} (told : D → Bool) (seen : D → List ℕ) (may_leave : D → List ℕ → Type 0) (node : NodeView D) : Type 0 where
  pub node_kept : IsNode told seen may_leave node
  pub state : node.state ≡ sum_of node.base node.entries
