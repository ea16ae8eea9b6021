-- Calls that add nothing, and calls that want memory.
use Rattle.std.proofs.Common.{◌≡◌, ◌∙◌, ap, sym, subst, inr, ℕ, List, [], ◌∷◌, ◌++◌, Bool, true, false, Option, Result, Ok, Err, refl, append-nil}
use Rattle.std.specs.Prelude.{OnErr, OnOk}
use Rattle.sig_outside.specs.Disk.{Stop}
use Rattle.sig_receiver.specs.Journal.{journal_by}
use Rattle.sig_receiver.specs.Receiver.{Received, is_accepted, received_of}
use Rattle.sig_receiver.specs.declared.heard.Heard.{Heard}
use Rattle.sig_receiver.specs.declared.heard.Heard.TheVariants.{Accepted, Seen, NotTaken}
use Rattle.sig_receiver.proofs.KeptLemmas.{none_more}
use Rattle.sig_journal.specs.Stored.{Stored}
use Rattle.sig_journal.specs.declared.node_fault.NodeFault.{NodeFault}
use Rattle.sig_journal.specs.declared.node_fault.NodeFault.TheVariants.{Memory}
use Rattle.sig_rxnode.specs.Holding.{Holding, IsHolding}
use Rattle.sig_rxnode.specs.Journals.{Adds, Causes, Passes, Writes}

-- a fault of a call that answers such values
abbrev pub failed : {E : Type 0} (T : Type 0) → E → Result T E
failed T e = Err e

pub of_ok : {T E : Type 0} (P : Type 0) (result : Result T E) → P → OnOk result P
of_ok P (Ok x) h = h
of_ok P (Err e) h = tt

pub of_err : {T E : Type 0} (P : Type 0) (result : Result T E) → P → OnErr result P
of_err P (Ok x) h = tt
of_err P (Err e) h = h

-- an answer that isn't Accepted adds no text
pub nothing_heard : (heard : Heard) (text : List ℕ) → false ≡ is_accepted heard → journal_by heard [] text ≡ []
nothing_heard Accepted text h = absurd cc
nothing_heard Seen text h = refl
nothing_heard (NotTaken code spot) text h = refl

-- one that is Accepted does
pub is_heard : (heard : Heard) → true ≡ is_accepted heard → heard ≡ Accepted
is_heard Accepted h = refl
is_heard Seen h = absurd cc
is_heard (NotTaken code spot) h = absurd cc

none_passes : {D : Type 0} (old : Holding D) (texts : List (List ℕ)) (n : ℕ) → texts ≡ [] → Passes old texts n → ⊥
none_passes old texts n none passes = let both : [] ≡ passes.text ∷ [] = sym none ∙ passes.adds in cc

module _ {D : Type 0} (old new : Holding D) (texts : List (List ℕ)) where
  -- ---- nothing is added

  pub adds_nothing : {T E : Type 0} (result : Result T E) → texts ≡ [] → new.state ≡ old.state → new.entries ≡ old.entries → Adds texts old new result
  adds_nothing result none state entries = record {
    state = of_ok _ result (state ∙ sym (none_more old.state) ∙ ap (received_of old.state) (sym none));
    entries = of_ok _ result (entries ∙ sym (append-nil old.entries) ∙ ap (λ l. old.entries ++ l) (sym none));
    state_kept = of_err _ result state;
    entries_kept = of_err _ result entries;
  }

  pub writes_nothing : {T : Type 0} (told : D → Bool) (seen : D → List ℕ) (may_leave : D → List ℕ → Type 0) (moment : D → ℕ) (left_since : D → ℕ → List ℕ → Type 0) (stop : D → Option Stop) (short : D → Bool)
      (result : Result T NodeFault) → texts ≡ [] → new.store ≡ old.store → Writes told seen may_leave moment left_since stop short texts old new result
  writes_nothing told seen may_leave moment left_since stop short result none store = record {
    unwritten = λ same. store;
    durable = λ text adds whole memory. let both : [] ≡ text ∷ [] = sym none ∙ adds in absurd cc;
    recorded = λ text adds whole memory. let both : [] ≡ text ∷ [] = sym none ∙ adds in absurd cc;
    added = λ text adds. let both : [] ≡ text ∷ [] = sym none ∙ adds in absurd cc;
  }

  pub causes_nothing : {T : Type 0} (faults : D → ℕ) (turn : ℕ) (x : T) → texts ≡ [] → new.store ≡ old.store → Causes faults texts turn old new (Ok x)
  causes_nothing faults turn x none store = record {
    store = λ err. absurd cc;
    full = λ n err. absurd cc;
    must = λ n passes. absurd (none_passes old texts n none passes);
    full_same = λ n err. store;
    memory_same = λ err. store;
    steady = λ other. ap (λ (s : Stored D). faults s.journal.written) store;
  }

  -- ---- memory ran out

  pub adds_memory : {T E : Type 0} (e : E) → new.state ≡ old.state → new.entries ≡ old.entries → Adds texts old new (failed T e)
  adds_memory e state entries = record { state = tt; entries = tt; state_kept = state; entries_kept = entries }

  pub writes_memory : {T : Type 0} (told : D → Bool) (seen : D → List ℕ) (may_leave : D → List ℕ → Type 0) (moment : D → ℕ) (left_since : D → ℕ → List ℕ → Type 0) (stop : D → Option Stop) (short : D → Bool)
      → new.store ≡ old.store → Writes told seen may_leave moment left_since stop short texts old new (failed T Memory)
  writes_memory told seen may_leave moment left_since stop short store = record {
    unwritten = λ same. store;
    durable = λ text adds whole memory. absurd (memory refl);
    recorded = λ text adds whole memory. absurd (memory refl);
    added = λ text adds. tt;
  }

  pub causes_memory : {T : Type 0} (faults : D → ℕ) (turn : ℕ) → new.store ≡ old.store → Causes faults texts turn old new (failed T Memory)
  causes_memory faults turn store = record {
    store = λ err. absurd cc;
    full = λ n err. absurd cc;
    must = λ n passes. inr refl;
    full_same = λ n err. store;
    memory_same = λ err. store;
    steady = λ other. ap (λ (s : Stored D). faults s.journal.written) store;
  }

-- what is held the same stands the same
pub holds_same : {D : Type 0} (told : D → Bool) (seen : D → List ℕ) (may_leave : D → List ℕ → Type 0) (old new : Holding D)
    → new.store ≡ old.store → new.state ≡ old.state → new.entries ≡ old.entries → IsHolding told seen may_leave old → IsHolding told seen may_leave new
holds_same {D} told seen may_leave old new store state entries holds =
    let make : Stored D → Received → List (List ℕ) → Holding D = λ s r l. record { store = s; state = r; entries = l } in
    subst (λ s. IsHolding told seen may_leave (make s new.state new.entries)) (sym store)
    (subst (λ r. IsHolding told seen may_leave (make old.store r new.entries)) (sym state)
    (subst (λ l. IsHolding told seen may_leave (make old.store old.state l)) (sym entries) holds))
