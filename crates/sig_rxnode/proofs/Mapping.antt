-- The same of an answer whose value is another.
use Rattle.std.proofs.Common.{◌≡◌, ◌∙◌, ap, inl, inr, ⊎_elim, ℕ, List, Bool, Option, Result, Ok, Err, refl}
use Rattle.std.specs.Prelude.{IsErrOf, is_ok}
use Rattle.sig_json.specs.Answers.{result_map}
use Rattle.sig_outside.specs.Disk.{Stop}
use Rattle.sig_journal.proofs.Appending.{rests_map}
use Rattle.sig_entry.specs.Tokens.{token_spelling}
use Rattle.sig_set.specs.declared.trust.Trust.{Trust}
use Rattle.sig_receiver.specs.Receiver.{Received}
use Rattle.sig_rxnode.specs.Answers.{heard_texts}
use Rattle.sig_journal.specs.Journal.{Open}
use Rattle.sig_journal.specs.Appended.{LeavesRecord}
use Rattle.sig_journal.specs.declared.node_fault.NodeFault.{NodeFault}
use Rattle.sig_journal.specs.declared.node_fault.NodeFault.TheVariants.{Store, Full, Memory}
use Rattle.sig_journal.proofs.Stands.{on_ok}
use Rattle.sig_rxnode.specs.Holding.{Holding}
use Rattle.sig_rxnode.specs.Journals.{Adds, Causes, Writes}

pub err_back : {T U E : Type 0} (f : T → U) (r : Result T E) (e : E) → IsErrOf (result_map f r) e → IsErrOf r e
err_back f (Ok x) e h = absurd cc
err_back {T} {U} {E} f (Err e') e h = let make : E → Result T E = λ x. Err x in let same : e' ≡ e = cc in ap make same

pub err_on : {T U E : Type 0} (f : T → U) (r : Result T E) (e : E) → IsErrOf r e → IsErrOf (result_map f r) e
err_on f (Ok x) e h = absurd cc
err_on {T} {U} {E} f (Err e') e h = let make : E → Result U E = λ x. Err x in let same : e' ≡ e = cc in ap make same

ok_map : {T U E : Type 0} (f : T → U) (r : Result T E) → is_ok (result_map f r) ≡ is_ok r
ok_map f (Ok x) = refl
ok_map f (Err e) = refl

-- what a record leaves is the same whatever its adding answers beside whether it was added
pub leaves_on : {D T U E F : Type 0} (told : D → Bool) (seen : D → List ℕ) (moment : D → ℕ) (left_since : D → ℕ → List ℕ → Type 0) (stop : D → Option Stop) (short : D → Bool) (old new : Open D) (payload : List ℕ)
    (call : Result T E) (result : Result U F) → is_ok result ≡ is_ok call
    → LeavesRecord told seen moment left_since stop short old new payload call → LeavesRecord told seen moment left_since stop short old new payload result
leaves_on told seen moment left_since stop short old new payload call result same leaves = record {
  any_moment = leaves.any_moment;
  stopped = λ both room. rests_map _ _ _ _ (stop old.written) (stop new.written) (short new.written) call result same (λ image h. h) (λ image h. h) (leaves.stopped both room);
}

module _ {D : Type 0} (texts : List (List ℕ)) (old new : Holding D) where
  pub adds_map : {T U E : Type 0} (f : T → U) (r : Result T E) → Adds texts old new r → Adds texts old new (result_map f r)
  adds_map f (Ok x) h = record { state = h.state; entries = h.entries; state_kept = tt; entries_kept = tt }
  adds_map f (Err e) h = record { state = tt; entries = tt; state_kept = h.state_kept; entries_kept = h.entries_kept }

  pub causes_map : {T U : Type 0} (f : T → U) (faults : D → ℕ) (turn : ℕ) (r : Result T NodeFault) → Causes faults texts turn old new r → Causes faults texts turn old new (result_map f r)
  causes_map f faults turn r h = record {
    store = λ err. h.store (err_back f r Store err);
    full = λ n err. h.full n (err_back f r (Full n) err);
    must = λ n passes. ⊎_elim (λ err. inl (err_on f r (Full n) err)) (λ err. inr (err_on f r Memory err)) (h.must n passes);
    full_same = λ n err. h.full_same n (err_back f r (Full n) err);
    memory_same = λ err. h.memory_same (err_back f r Memory err);
    steady = λ other. h.steady (λ err. other (err_on f r Store err));
  }

  pub writes_map : {T U : Type 0} (f : T → U) (told : D → Bool) (seen : D → List ℕ) (may_leave : D → List ℕ → Type 0) (moment : D → ℕ) (left_since : D → ℕ → List ℕ → Type 0) (stop : D → Option Stop) (short : D → Bool)
      (r : Result T NodeFault) → Writes told seen may_leave moment left_since stop short texts old new r → Writes told seen may_leave moment left_since stop short texts old new (result_map f r)
  writes_map f told seen may_leave moment left_since stop short r h = record {
    unwritten = h.unwritten;
    durable = λ text adds whole memory.
        let d = h.durable text adds whole (λ err. memory (err_on f r Memory err)) in
        record {
          any_moment = d.any_moment;
          acknowledged = on_ok _ _ r (result_map f r) (ok_map f r) (λ a. a) d.acknowledged;
          stopped = λ both room. rests_map _ _ _ _ (stop old.store.journal.written) (stop new.store.journal.written) (short new.store.journal.written) r (result_map f r) (ok_map f r) (λ image loads. loads) (λ image loads. loads) (d.stopped both room);
          files = d.files;
        };
    recorded = λ text adds whole memory.
        leaves_on told seen moment left_since stop short old.store.journal new.store.journal (token_spelling text) r (result_map f r) (ok_map f r) (h.recorded text adds whole (λ err. memory (err_on f r Memory err)));
    added = λ text adds. on_ok _ _ r (result_map f r) (ok_map f r) (λ a. a) (h.added text adds);
  }

-- the texts of a token that is heard, by what is passed on of it
pub same_texts : (trust : Trust) (p p' n n' : Option (List ℕ)) (state : Received) (text text' : List ℕ) → p ≡ p' → n ≡ n' → text ≡ text' → heard_texts trust p n state text ≡ heard_texts trust p' n' state text'
same_texts trust p p' n n' state text text' first second third =
    ap (λ (o : Option (List ℕ)). heard_texts trust o n state text) first ∙ ap (λ (o : Option (List ℕ)). heard_texts trust p' o state text) second ∙ ap (heard_texts trust p' n' state) third
