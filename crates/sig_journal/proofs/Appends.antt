-- Why a record was not added to the store of a node, by why it was not added to its journal.
use Rattle.std.proofs.Common.{◌≡◌, ℕ, ◌+◌, ◌<◌, ◌≤◌, List, length, Result, Ok, Err, ap}
use Rattle.std.specs.Prelude.{◌↔◌, ⊤, IsErrOf, OnOk}
use Rattle.sig_json.specs.declared.limits.TheConstants.{LAST_NUMBER}
use Rattle.sig_journal.specs.declared.journal.AppendFault.{AppendFault}
use Rattle.sig_journal.specs.declared.journal.AppendFault.TheVariants.{Store, Full}
use Rattle.sig_journal.specs.Appended.{AppendCauses, Breaks}
use Rattle.sig_journal.specs.Stored.{Stored}

-- the answer of the journal without the new end
abbrev pub without_end : {U : Type 0} → Result U AppendFault → Result ⊤ AppendFault
without_end (Ok end) = Ok tt
without_end (Err fault) = Err fault

same_fault : {U : Type 0} (call : Result U AppendFault) (fault : AppendFault) → IsErrOf (without_end call) fault → IsErrOf call fault
same_fault (Ok end) fault is = absurd cc
same_fault {U} (Err of) fault is = let make : AppendFault → Result U AppendFault = λ f. Err f in let same : of ≡ fault = cc in ap make same

fault_back : {U : Type 0} (call : Result U AppendFault) (fault : AppendFault) → IsErrOf call fault → IsErrOf (without_end call) fault
fault_back (Ok end) fault is = absurd cc
fault_back {U} (Err of) fault is = let make : AppendFault → Result ⊤ AppendFault = λ f. Err f in let same : of ≡ fault = cc in ap make same

steady_still : {U : Type 0} (P : Type 0) (call : Result U AppendFault) → OnOk call P → OnOk (without_end call) P
steady_still P (Ok end) h = h
steady_still P (Err of) h = tt

pub causes_of : {D U : Type 0} (faults : D → ℕ) (old new : Stored D) (payload : List ℕ) (turn : ℕ) (call : Result U AppendFault)
    → (IsErrOf call Store → Breaks faults old new turn)
    → ((n : ℕ) → IsErrOf call (Full n) ↔ ((n ≡ old.journal.end + 5 + length payload) × (LAST_NUMBER < n)))
    → ((n : ℕ) → IsErrOf call (Full n) → new ≡ old)
    → OnOk call (faults new.journal.written ≡ faults old.journal.written)
    → faults old.journal.written ≤ faults new.journal.written
    → AppendCauses faults old new payload turn (without_end call)
causes_of faults old new payload turn call breaks full same steady later = record {
  store = λ err. breaks (same_fault call Store err);
  full = λ n. ((λ err. (full n).0 (same_fault call (Full n) err)), (λ passes. fault_back call (Full n) ((full n).1 passes)));
  same = λ n err. same n (same_fault call (Full n) err);
  steady = steady_still _ call steady;
  later = later;
}
