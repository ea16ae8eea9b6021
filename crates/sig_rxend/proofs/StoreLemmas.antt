-- A receiver's node between the files that are opened and those that are put back.
use Rattle.std.proofs.Common.{◌≡◌, ℕ, Bool, List, Some, Result, Ok, Err, sym}
use Rattle.std.specs.Prelude.{IsTrue, ⊤}
use Rattle.sig_entry.specs.Tokens.{decoded_token}
use Rattle.sig_fields.specs.declared.fault.DecodeFault.{DecodeFault}
use Rattle.sig_journal.specs.declared.kind.Kind.TheVariants.{Rx}
use Rattle.sig_opening.specs.Stores.{FilesTell}
use Rattle.sig_opening.proofs.FilesLemmas.{puts_back}
use Rattle.sig_receiver.specs.Receiver.{Received}
use Rattle.sig_receiver.specs.Taking.{text_taken}
use Rattle.sig_receiver.specs.declared.take_fault.TakeFault.{TakeFault}
use Rattle.sig_rxnode.specs.Holding.{IsHolding}
use Rattle.sig_rxnode.specs.Node.{NodeView}
use Rattle.sig_rxnode.specs.Records.{after_record, after_text, receiving}
use Rattle.sig_rxend.specs.Stores.{held_by, state_of, with_text}

-- a record that was taken up is that of a text
text_after : (state next : Received) (text : List ℕ) (r : Result ⊤ TakeFault) → after_text state text r ≡ Some next → next ≡ with_text state text
text_after state next text (Ok taken) is = sym cc
text_after state next text (Err fault) is = absurd cc

taken_text : (state next : Received) (d : Result (List ℕ) DecodeFault) → after_record state d ≡ Some next → (text : List ℕ) × (next ≡ with_text state text)
taken_text state next (Ok text) is = (text, text_after state next text (text_taken text) is)
taken_text state next (Err e) is = absurd cc

-- what the files of a node tell
pub node_tells : {D : Type 0} (told : D → Bool) (seen : D → List ℕ) (may_leave : D → List ℕ → Type 0) (reads_now : (file : D) → IsTrue (told file) → may_leave file (seen file))
    → (node : NodeView D) → node.kept.store.journal.kind ≡ Rx → IsHolding told seen may_leave node.kept → FilesTell told seen state_of with_text (held_by node)
node_tells told seen may_leave reads_now node kind holds = λ fails broken.
    puts_back receiving with_text Rx told seen may_leave reads_now (λ state payload next is. taken_text state next (decoded_token payload) is) node.kept.store node.kept.state fails kind holds.stands broken
