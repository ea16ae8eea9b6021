-- What a watch makes of a receiver's node.
use Rattle.std.specs.Prelude.{◌≡◌, ℕ, List, Bool}
use Rattle.sig_receiver.specs.Receiver.{received_of}
use Rattle.sig_rxnode.specs.Holding.{IsHolding}
use Rattle.sig_rxnode.specs.Node.{IsHistory, NodeView, base_of, files_told, since_of}

-- its base is the state of that node; its rules, and whether its files are told, stay
pub record Follows {D : Type 0} (told : D → Bool) (old new : NodeView D) : Type 0 where
  pub base : base_of new ≡ old.kept.state
  pub rules : new.rules ≡ old.rules
  pub files : files_told told new ≡ files_told told old

-- the node's turns are one history from its base, by the rules; its state is what the base comes to with the texts since, and its
-- store stands for it
pub record IsOneHistory {D : Type 0} (told : D → Bool) (seen : D → List ℕ) (may_leave : D → List ℕ → Type 0) (node : NodeView D) : Type 0 where
  pub turns : IsHistory node
  pub holds : IsHolding told seen may_leave node.kept
  pub state : node.kept.state ≡ received_of (base_of node) (since_of node)
