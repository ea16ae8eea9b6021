-- A transmitter's store that is put back.
use Rattle.std.specs.Prelude.{ℕ, List, Bool}
use Rattle.sig_history.specs.Owed.{Sum}
use Rattle.sig_opening.specs.Closing as closing
use Rattle.sig_opening.specs.Stores as stores
use Rattle.sig_terms.specs.declared.fact.Fact.{Fact}
use Rattle.sig_txnode.specs.Node.{NodeView}
use Rattle.sig_txend.specs.Stores as own

-- a state with one more fact
abbrev pub with_fact : Sum → Fact → Sum
with_fact = own.with_fact

-- it stands for this state; where a disk failed, for this or for that with one more fact
abbrev pub PutsBack : Bool → Sum → List ℕ → List ℕ → Type 0
PutsBack fails state a b = closing.PutsBack own.state_of with_fact fails state a b

-- the two files of a node, where both are told, stand so for its state, by whether it is broken
abbrev pub FilesTell : {D : Type 0} → (D → Bool) → (D → List ℕ) → NodeView D → Type 0
FilesTell told seen node = stores.FilesTell told seen own.state_of with_fact (own.held_by node)
