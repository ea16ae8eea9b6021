-- What adding a token's record leaves of what a node holds.
use Rattle.std.proofs.Common.{◌≡◌, ◌∙◌, ap, sym, subst, inl, ℕ, ◌+◌, ◌<◌, ◌≤◌, List, [], ◌∷◌, ◌++◌, length, Bool, Option, Some, None, Result, Ok, Err, refl}
use Rattle.std.proofs.lemmas.Bool.{false≢true}
use Rattle.std.specs.Prelude.{OnOk, IsErrOf, is_ok, is_some}
use Rattle.sig_json.specs.declared.limits.TheConstants.{LAST_NUMBER}
use Rattle.sig_outside.specs.Disk.{Stop}
use Rattle.sig_journal.specs.declared.journal.AppendFault.{AppendFault}
use Rattle.sig_journal.specs.declared.journal.AppendFault.TheVariants as append
use Rattle.sig_entry.specs.Tokens.{token_spelling}
use Rattle.sig_receiver.specs.Receiver.{Received, nothing, received_of}
use Rattle.sig_receiver.proofs.JournalLemmas.{joins}
use Rattle.sig_journal.specs.Appended.{AppendCauses, HasRecord, LeavesRecord, WritesOne}
use Rattle.sig_journal.specs.Faults.{fault_of}
use Rattle.sig_journal.specs.Standing.{Durable, StandsFor}
use Rattle.sig_journal.specs.Stored.{Stored}
use Rattle.sig_journal.specs.declared.node_fault.NodeFault.{NodeFault}
use Rattle.sig_journal.specs.declared.node_fault.NodeFault.TheVariants.{Full}
use Rattle.sig_journal.proofs.Stands.{durable_of, on_ok, stands_after, stands_broken}
use Rattle.sig_rxnode.specs.Holding.{Holding, IsHolding}
use Rattle.sig_rxnode.specs.Journals.{Causes, Passes, Writes}
use Rattle.sig_rxnode.specs.Records.{receiving}
use Rattle.sig_rxnode.proofs.Cases.{holds_same}
use Rattle.sig_rxnode.proofs.Mapping.{leaves_on}

-- the answer of the store, as the node gives it
abbrev pub carried : {T : Type 0} → Result T AppendFault → Result T NodeFault
carried (Ok x) = Ok x
carried (Err fault) = Err (fault_of fault)

same_ok : {T : Type 0} (call : Result T AppendFault) → is_ok (carried call) ≡ is_ok call
same_ok (Ok x) = refl
same_ok (Err fault) = refl

module _ {D : Type 0} (told : D → Bool) (seen : D → List ℕ) (may_leave : D → List ℕ → Type 0) (moment : D → ℕ) (left_since : D → ℕ → List ℕ → Type 0) (stop : D → Option Stop) (short : D → Bool) (faults : D → ℕ) (text : List ℕ) (turn : ℕ) (old new : Holding D) (holds : IsHolding told seen may_leave old) (whole : old.store.broken_at ≡ None) (step : receiving.step old.state (token_spelling text) ≡ Some (received_of old.state (text ∷ []))) where
  module _ {T : Type 0} (call : Result T AppendFault) (ok : OnOk call (HasRecord told seen may_leave old.store new.store (token_spelling text))) (leaves : LeavesRecord told seen moment left_since stop short old.store.journal new.store.journal (token_spelling text) call) (files : WritesOne told old.store.journal new.store.journal) (causes : AppendCauses faults old.store new.store (token_spelling text) turn call) where
    pub journal_writes : Writes told seen may_leave moment left_since stop short (text ∷ []) old new (carried call)
    journal_writes = record {
      unwritten = λ none. absurd cc;
      durable = λ text' adds whole' memory.
          let same : text ≡ text' = cc in
          subst (λ (t : List ℕ). Durable receiving told seen may_leave moment left_since stop short (token_spelling t) old.store new.store old.state (received_of old.state (t ∷ [])) (carried call)) same
          (durable_of receiving told seen may_leave old.store new.store old.state (received_of old.state (text ∷ [])) (token_spelling text) holds.stands whole step moment left_since stop short call (carried call) (same_ok call) ok leaves files);
      recorded = λ text' adds whole' memory.
          let same : text ≡ text' = cc in
          subst (λ (t : List ℕ). LeavesRecord told seen moment left_since stop short old.store.journal new.store.journal (token_spelling t) (carried call)) same
          (leaves_on told seen moment left_since stop short old.store.journal new.store.journal (token_spelling text) call (carried call) (same_ok call) leaves);
      added = λ text' adds.
          let same : text ≡ text' = cc in
          subst (λ (t : List ℕ). OnOk (carried call) (HasRecord told seen may_leave old.store new.store (token_spelling t))) same
          (on_ok _ _ call (carried call) (same_ok call) (λ a. a) ok);
    }

    -- where the disk failed
    pub holds_broken : IsErrOf call append.Store → ((file : D) (t : ℕ) (image : List ℕ) → t ≤ moment file → may_leave file image → left_since file t image)
        → new.state ≡ old.state → new.entries ≡ old.entries → IsHolding told seen may_leave new
    holds_broken failed counts_now state entries =
        let breaks = causes.store failed in
        record {
          replays = state ∙ holds.replays ∙ ap (received_of nothing) (sym entries);
          rests = λ unbroken. absurd (false≢true (ap is_some (sym unbroken) ∙ ap is_some breaks.at));
          stands = subst (λ (s : Received). StandsFor receiving told seen may_leave new.store s) (sym state)
              (stands_broken receiving told seen may_leave old.store new.store old.state (received_of old.state (text ∷ [])) (token_spelling text) holds.stands whole step moment left_since stop short faults turn call (holds.rests whole) counts_now leaves files breaks);
        }

  -- once the record is added
  pub holds_after : HasRecord told seen may_leave old.store new.store (token_spelling text) → WritesOne told old.store.journal new.store.journal
      → new.state ≡ received_of old.state (text ∷ []) → new.entries ≡ old.entries ++ text ∷ [] → IsHolding told seen may_leave new
  holds_after has files state entries = record {
    replays = state ∙ ap (λ (s : Received). received_of s (text ∷ [])) holds.replays ∙ sym (joins nothing old.entries (text ∷ [])) ∙ ap (received_of nothing) (sym entries);
    rests = λ unbroken. has.rests;
    stands = subst (λ (s : Received). StandsFor receiving told seen may_leave new.store s) (sym state)
        (stands_after receiving told seen may_leave old.store new.store old.state (received_of old.state (text ∷ [])) (token_spelling text) holds.stands whole step files has);
  }

-- the text that is to be added is this
passes_so : {D : Type 0} (old : Holding D) (text : List ℕ) (n : ℕ) (passes : Passes old (text ∷ []) n) → (n ≡ old.store.journal.end + 5 + length (token_spelling text)) × (LAST_NUMBER < n)
passes_so old text n passes =
    let adds : text ∷ [] ≡ passes.text ∷ [] = passes.adds in
    let same : text ≡ passes.text = cc in
    (passes.ends ∙ ap (λ (t : List ℕ). old.store.journal.end + 5 + length (token_spelling t)) (sym same), passes.past)

-- why the call is refused
module _ {D T : Type 0} (faults : D → ℕ) (text : List ℕ) (turn : ℕ) (old new : Holding D) where
  pub journal_causes : (call : Result T AppendFault) → AppendCauses faults old.store new.store (token_spelling text) turn call → Causes faults (text ∷ []) turn old new (carried call)
  journal_causes (Ok x) causes = record {
    store = λ err. absurd cc;
    full = λ n err. absurd cc;
    must = λ n passes. let err = (causes.full n).1 (passes_so old text n passes) in absurd cc;
    full_same = λ n err. absurd cc;
    memory_same = λ err. absurd cc;
    steady = λ other. causes.steady;
  }
  journal_causes (Err append.Store) causes = record {
    store = λ err. record { text = text; adds = refl; breaks = causes.store refl };
    full = λ n err. absurd cc;
    must = λ n passes. let err = (causes.full n).1 (passes_so old text n passes) in absurd cc;
    full_same = λ n err. absurd cc;
    memory_same = λ err. absurd cc;
    steady = λ other. absurd (other refl);
  }
  journal_causes (Err (append.Full m)) causes = record {
    store = λ err. absurd cc;
    full = λ n err.
        let same : m ≡ n = cc in
        let so = (causes.full m).0 refl in
        record { text = text; adds = refl; ends = sym same ∙ so.0; past = subst (λ (k : ℕ). LAST_NUMBER < k) same so.1 };
    must = λ n passes.
        let err = (causes.full n).1 (passes_so old text n passes) in
        let same : m ≡ n = cc in
        let make : ℕ → Result T NodeFault = λ k. Err (Full k) in
        inl (ap make same);
    full_same = λ n err. causes.same m refl;
    memory_same = λ err. absurd cc;
    steady = λ other. ap (λ (s : Stored D). faults s.journal.written) (causes.same m refl);
  }

-- the same of a record that spells the text
module _ {D T : Type 0} (told : D → Bool) (seen : D → List ℕ) (may_leave : D → List ℕ → Type 0) (moment : D → ℕ) (left_since : D → ℕ → List ℕ → Type 0) (stop : D → Option Stop) (short : D → Bool) (faults : D → ℕ) (text : List ℕ) (turn : ℕ) (old new : Holding D) (holds : IsHolding told seen may_leave old) (whole : old.store.broken_at ≡ None) (step : receiving.step old.state (token_spelling text) ≡ Some (received_of old.state (text ∷ [])))
    (payload : List ℕ) (spelled : payload ≡ token_spelling text) (call : Result T AppendFault) (ok : OnOk call (HasRecord told seen may_leave old.store new.store payload)) (leaves : LeavesRecord told seen moment left_since stop short old.store.journal new.store.journal payload call) (files : WritesOne told old.store.journal new.store.journal) (causes : AppendCauses faults old.store new.store payload turn call) where
  has_spelled : OnOk call (HasRecord told seen may_leave old.store new.store (token_spelling text))
  has_spelled = subst (λ (p : List ℕ). OnOk call (HasRecord told seen may_leave old.store new.store p)) spelled ok

  leaves_spelled : LeavesRecord told seen moment left_since stop short old.store.journal new.store.journal (token_spelling text) call
  leaves_spelled = subst (λ (p : List ℕ). LeavesRecord told seen moment left_since stop short old.store.journal new.store.journal p call) spelled leaves

  causes_spelled : AppendCauses faults old.store new.store (token_spelling text) turn call
  causes_spelled = subst (λ (p : List ℕ). AppendCauses faults old.store new.store p turn call) spelled causes

  pub spelled_writes : Writes told seen may_leave moment left_since stop short (text ∷ []) old new (carried call)
  spelled_writes = journal_writes told seen may_leave moment left_since stop short faults text turn old new holds whole step call has_spelled leaves_spelled files causes_spelled

  pub spelled_causes : Causes faults (text ∷ []) turn old new (carried call)
  spelled_causes = journal_causes faults text turn old new call causes_spelled

  pub spelled_fault : (fault : AppendFault) → IsErrOf call fault → ((file : D) (t : ℕ) (image : List ℕ) → t ≤ moment file → may_leave file image → left_since file t image)
      → new.state ≡ old.state → new.entries ≡ old.entries → IsHolding told seen may_leave new
  spelled_fault append.Store failed counts_now state entries = holds_broken told seen may_leave moment left_since stop short faults text turn old new holds whole step call has_spelled leaves_spelled files causes_spelled failed counts_now state entries
  spelled_fault (append.Full n) failed counts_now state entries = holds_same told seen may_leave old new (causes.same n failed) state entries holds
