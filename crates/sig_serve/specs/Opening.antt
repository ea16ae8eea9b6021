-- A transmitter's store that was opened.
use Rattle.std.specs.Prelude.{ℕ, List, Bool, Option}
use Rattle.sig_history.specs.Whole.{IsWhole}
use Rattle.sig_opening.specs.Stores as stores
use Rattle.sig_terms.specs.declared.rules.Rules.{Rules}
use Rattle.sig_txnode.specs.Node.{NodeView}
use Rattle.sig_txend.specs.Stores.{held_by, state_of}

-- the node of a store of these two files, as they were told, by these rules: its state is what the store stands for, and that of
-- a sound history
abbrev pub Opens : {D : Type 0} → (D → Bool) → (D → List ℕ) → Rules → Option (List ℕ) → Option (List ℕ) → NodeView D → Type 0
Opens told seen rules a b node = stores.Opens told seen state_of IsWhole rules a b (held_by node)
