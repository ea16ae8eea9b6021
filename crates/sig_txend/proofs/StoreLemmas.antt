-- A transmitter's node between the files that are opened and those that are put back.
use Rattle.std.proofs.Common.{◌≡◌, ℕ, Bool, true, false, List, [], ◌∷◌, Some, None, Result, Ok, Err, if◌then◌else◌, sym}
use Rattle.std.specs.Prelude.{IsTrue}
use Rattle.sig_fields.specs.declared.fault.DecodeFault.{DecodeFault}
use Rattle.sig_history.specs.Owed.{Sum, sum_of}
use Rattle.sig_history.specs.Sound.{is_fitting}
use Rattle.sig_history.specs.Whole.{IsWhole}
use Rattle.sig_journal.specs.declared.kind.Kind.TheVariants.{Tx}
use Rattle.sig_opening.specs.Stores.{FilesTell, Loads, TellsAs}
use Rattle.sig_opening.proofs.FilesLemmas.{puts_back}
use Rattle.sig_terms.specs.declared.fact.Fact.{Fact}
use Rattle.sig_terms.specs.declared.rules.Rules.{Rules}
use Rattle.sig_txnode.specs.Loaded.{Begins}
use Rattle.sig_txnode.specs.Node.{IsNode, NodeView, first_file, second_file}
use Rattle.sig_txnode.specs.Records.{after_record, sending}
use Rattle.sig_txend.specs.Stores.{held_by, state_of, with_fact}

-- a node that was loaded stands for what its files told
pub loads_by : {D : Type 0} (told : D → Bool) (seen : D → List ℕ) (may_leave : D → List ℕ → Type 0) (rules : Rules) (a b : D) (node : NodeView D)
    → (IsTrue (told a) → IsTrue (told b) → state_of (seen a) (seen b) ≡ Ok node.state) → Begins told seen may_leave rules node → IsWhole node.state
    → TellsAs told seen a (first_file node) → TellsAs told seen b (second_file node) → Loads told seen state_of IsWhole rules a b (held_by node)
loads_by told seen may_leave rules a b node stands begins whole first second = record {
  rules_same = begins.same_rules;
  whole = begins.whole;
  state = stands;
  sound = whole;
  first = first;
  second = second;
}

-- a record that was taken up is that of a fact
fits_one : (state next : Sum) (f : Fact) (b : Bool) → (if b then Some (sum_of state (f ∷ [])) else None) ≡ Some next → next ≡ sum_of state (f ∷ [])
fits_one state next f true is = sym cc
fits_one state next f false is = absurd cc

taken_fact : (state next : Sum) (d : Result Fact DecodeFault) → after_record state d ≡ Some next → (f : Fact) × (next ≡ with_fact state f)
taken_fact state next (Ok f) is = (f, fits_one state next f (is_fitting state f) is)
taken_fact state next (Err e) is = absurd cc

-- what the files of a node tell
pub node_tells : {D : Type 0} (told : D → Bool) (seen : D → List ℕ) (may_leave : D → List ℕ → Type 0) (reads_now : (file : D) → IsTrue (told file) → may_leave file (seen file))
    → (node : NodeView D) → IsNode told seen may_leave node → FilesTell told seen state_of with_fact (held_by node)
node_tells told seen may_leave reads_now node kept = λ fails broken.
    puts_back sending with_fact Tx told seen may_leave reads_now (λ state payload next is. taken_fact state next _ is) node.store node.state fails kept.kind kept.stands broken
