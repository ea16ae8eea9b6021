-- A receiver's store that was opened.
use Rattle.std.specs.Prelude.{ℕ, List, Bool, Option, ⊤}
use Rattle.sig_opening.specs.Stores as stores
use Rattle.sig_rxnode.specs.Node.{NodeView}
use Rattle.sig_rxnode.specs.declared.rules.RxRules.{RxRules}
use Rattle.sig_rxend.specs.Stores.{held_by, state_of}

-- the node of a store of these two files, as they were told, by these rules: what it keeps is what the store stands for
abbrev pub Opens : {D : Type 0} → (D → Bool) → (D → List ℕ) → RxRules → Option (List ℕ) → Option (List ℕ) → NodeView D → Type 0
Opens told seen rules a b node = stores.Opens told seen state_of (λ _. ⊤) rules a b (held_by node)
