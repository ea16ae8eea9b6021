-- A receiver's store that is put back.
use Rattle.std.specs.Prelude.{ℕ, List, Bool}
use Rattle.sig_opening.specs.Closing as closing
use Rattle.sig_opening.specs.Stores as stores
use Rattle.sig_receiver.specs.Receiver.{Received}
use Rattle.sig_rxnode.specs.Node.{NodeView}
use Rattle.sig_rxend.specs.Stores as own

-- what is kept with one more token text
abbrev pub with_text : Received → List ℕ → Received
with_text = own.with_text

-- it stands for this state; where a disk failed, for this or for that with one more text
abbrev pub PutsBack : Bool → Received → List ℕ → List ℕ → Type 0
PutsBack fails state a b = closing.PutsBack own.state_of with_text fails state a b

-- the two files of a node, where both are told, stand so for its state, by whether it is broken
abbrev pub FilesTell : {D : Type 0} → (D → Bool) → (D → List ℕ) → NodeView D → Type 0
FilesTell told seen node = stores.FilesTell told seen own.state_of with_text (own.held_by node)
