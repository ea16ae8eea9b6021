-- What a journal tells, and what it keeps to, once a snapshot stands in place of its records.
use Rattle.std.proofs.Common.{◌≡◌, ◌⊎◌, inl, inr, ⊎_elim, ℕ, ◌+◌, List, [], length, Bool, true, false, Result, Ok, Err, refl, sym, ◌∙◌, ap, subst, arith}
use Rattle.std.specs.Prelude.{not, IsTrue}
use Rattle.sig_outside.specs.Disk.{Only}
use Rattle.sig_journal.specs.declared.fault.LoadFault.{LoadFault}
use Rattle.sig_journal.specs.declared.kind.Kind.{Kind}
use Rattle.sig_journal.specs.Beside.{TellsBefore}
use Rattle.sig_journal.specs.Checkpoint.{IsBeforeOrCompacted, beside_store, compacted}
use Rattle.sig_journal.specs.Gates.{BeginsOpen}
use Rattle.sig_journal.specs.Journal.{BothTold, IsAtRest, KnowsFiles, Open, store_with, told_store}
use Rattle.sig_journal.specs.Layout.{Content}
use Rattle.sig_journal.specs.Store.{InForce, Told}
use Rattle.sig_journal.proofs.Stores.{held}

-- the two files of a store, whichever of them is in force
swapped : (in_b : Bool) (kind : Kind) (first second : List ℕ) → store_with (not in_b) kind first second ≡ store_with in_b kind second first
swapped true kind first second = refl
swapped false kind first second = refl

abbrev name_in : Result Content ℕ → List ℕ
name_in (Ok content) = content.store_id
name_in (Err at) = []

-- what a store of this name tells with the snapshot alone
abbrev pub of_snapshot : Bool → List ℕ → List ℕ → Result Told LoadFault
of_snapshot in_b store_id snapshot = Ok (record { in_b = in_b; content = record { store_id = store_id; snapshot = snapshot; records = [] } })

-- beside the file in force of this journal such an image puts the snapshot in force
abbrev pub PutsSnapshot : {D : Type 0} → (D → List ℕ) → Open D → List ℕ → List ℕ → Type 0
PutsSnapshot seen journal snapshot image =
    (in_b : Bool) → store_with in_b journal.kind (seen journal.written) image ≡ of_snapshot (not in_b) journal.store_id snapshot

module _ {D : Type 0} (told : D → Bool) (seen : D → List ℕ) (may_leave : D → List ℕ → Type 0) (journal : Open D) (snapshot : List ℕ) (rest : IsAtRest told seen may_leave journal) (knows : KnowsFiles told seen journal) (both : BothTold told journal) where
  named : (rest.stands both).content.store_id ≡ journal.store_id
  named =
      let s = rest.stands both in
      let k = knows.written both.0 in
      ap name_in (sym (held journal.in_b journal.kind (seen journal.written) (seen journal.other) s.content s.tells) ∙ k.holds) ∙ k.named

  pub compacted_told : (image : List ℕ) → PutsSnapshot seen journal snapshot image → beside_store seen journal image ≡ compacted (told_store seen journal) snapshot
  compacted_told image puts =
      puts journal.in_b ∙ sym (ap (λ t. compacted t snapshot) (rest.stands both).tells ∙ ap (λ (name : List ℕ). of_snapshot (not journal.in_b) name snapshot) named)

  pub before_told : (image : List ℕ) → TellsBefore journal.kind (seen journal.written) (seen journal.other) image → beside_store seen journal image ≡ told_store seen journal
  before_told image same = same journal.in_b (rest.stands both).content (rest.stands both).tells ∙ sym (rest.stands both).tells

  pub either_told : (image : List ℕ) → TellsBefore journal.kind (seen journal.written) (seen journal.other) image ⊎ PutsSnapshot seen journal snapshot image
      → IsBeforeOrCompacted (told_store seen journal) snapshot (beside_store seen journal image)
  either_told image either = ⊎_elim (λ same. inl (before_told image same)) (λ puts. inr (compacted_told image puts)) either

module _ {D : Type 0} (told : D → Bool) (seen : D → List ℕ) (may_leave : D → List ℕ → Type 0) (journal : Open D) (snapshot : List ℕ) where
  -- the journal once the first of these files, which wasn't in force, holds the snapshot
  abbrev pub turned : D → D → Open D
  turned file other = record { written = file; other = other; in_b = not journal.in_b; kind = journal.kind; records = 0; end = 36 + length snapshot; broken = journal.broken; generation = journal.generation + 1; other_open = true; store_id = journal.store_id }

  module _ (file new other : D) (is : new ≡ file) (was : other ≡ journal.written) where
    turned_is : turned file journal.written ≡ turned new other
    turned_is = λ i. turned (sym is i) (sym was i)

    pub turned_tells : IsAtRest told seen may_leave journal → KnowsFiles told seen journal → (both : BothTold told journal) → PutsSnapshot seen journal snapshot (seen file)
        → told_store seen (turned new other) ≡ compacted (told_store seen journal) snapshot
    turned_tells rest knows both puts =
        subst (λ (j : Open D). told_store seen j ≡ compacted (told_store seen journal) snapshot) turned_is
        (swapped journal.in_b journal.kind (seen file) (seen journal.written) ∙ compacted_told told seen may_leave journal snapshot rest knows both (seen file) puts)

    pub turned_rests : IsAtRest told seen may_leave journal → Only (seen file) (may_leave file) → told file ≡ told journal.other
        → (IsTrue (told journal.written) → IsTrue (told journal.other) → PutsSnapshot seen journal snapshot (seen file)) → IsAtRest told seen may_leave (turned new other)
    turned_rests rest durable same puts =
        subst (IsAtRest told seen may_leave) turned_is
        (record {
          written = durable;
          other = rest.written;
          stands = λ both. record {
            content = record { store_id = journal.store_id; snapshot = snapshot; records = [] };
            tells = swapped journal.in_b journal.kind (seen file) (seen journal.written) ∙ puts both.1 (sym same ∙ both.0) journal.in_b;
            ends = omega arith;
            counts = refl;
          };
        })

    pub turned_knows : KnowsFiles told seen journal → told file ≡ told journal.other
        → (IsTrue (told journal.other) → InForce journal.kind (seen file) (36 + length snapshot) (journal.generation + 1) journal.store_id) → KnowsFiles told seen (turned new other)
    turned_knows knows same put =
        subst (KnowsFiles told seen) turned_is
        (record {
          written = λ told_file. put (sym same ∙ told_file);
          other = λ told_other. subst (BeginsOpen true) (sym (knows.written told_other).begins) refl;
        })
