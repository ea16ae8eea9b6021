-- What adding a record leaves of the store of a node.
use Rattle.std.specs.Prelude.{◌≡◌, ◌↔◌, ℕ, ◌+◌, ◌<◌, ◌≤◌, List, length, Bool, Option, Some, None, Result, IsErrOf, OnOk}
use Rattle.sig_json.specs.declared.limits.TheConstants.{LAST_NUMBER}
use Rattle.sig_outside.specs.Causes.{Raised}
use Rattle.sig_outside.specs.Disk.{LeavesOnly, Stop}
use Rattle.sig_journal.specs.declared.journal.AppendFault.{AppendFault}
use Rattle.sig_journal.specs.declared.journal.AppendFault.TheVariants.{Store, Full}
use Rattle.sig_journal.specs.Added.{RestsWith}
use Rattle.sig_journal.specs.Journal.{BothTold, IsAtRest, Open, image_store, told_store}
use Rattle.sig_journal.specs.Store.{IsBeforeOrAfter, with_record}
use Rattle.sig_journal.specs.Stored.{Stored}

-- a journal of which the file in force alone was written
pub record WritesOne {D : Type 0} (told : D → Bool) (old new : Open D) : Type 0 where
  pub other : new.other ≡ old.other
  pub in_b : new.in_b ≡ old.in_b
  pub kind : new.kind ≡ old.kind
  pub told_same : told new.written ≡ told old.written

-- what a crash leaves at any moment of the call, and what a disk that stands still rests with: what the store told before, or that with the record
pub record LeavesRecord {D T E : Type 0} (told : D → Bool) (seen : D → List ℕ) (moment : D → ℕ) (left_since : D → ℕ → List ℕ → Type 0) (stop : D → Option Stop) (short : D → Bool) (old new : Open D) (payload : List ℕ) (result : Result T E) : Type 0 where
  pub any_moment : BothTold told old → LeavesOnly moment left_since old.written new.written (λ image. IsBeforeOrAfter (told_store seen old) payload (image_store seen old image))
  pub stopped : BothTold told old → old.end + 5 + length payload ≤ LAST_NUMBER
      → RestsWith (λ image. image_store seen old image ≡ told_store seen old) (λ image. image_store seen old image ≡ with_record (told_store seen old) payload)
      (stop old.written) (stop new.written) (short new.written) result

-- the journal after the record was added
pub record HasRecord {D : Type 0} (told : D → Bool) (seen : D → List ℕ) (may_leave : D → List ℕ → Type 0) (old new : Stored D) (payload : List ℕ) : Type 0 where
  pub whole : new.broken_at ≡ None
  pub ends : new.journal.end ≡ old.journal.end + 5 + length payload
  pub counts : new.journal.records ≡ old.journal.records + 1
  pub rests : IsAtRest told seen may_leave new.journal
  pub tells : BothTold told old.journal → told_store seen new.journal ≡ with_record (told_store seen old.journal) payload

-- the disk failed in this turn, and counted it
pub record Breaks {D : Type 0} (faults : D → ℕ) (old new : Stored D) (turn : ℕ) : Type 0 where
  pub rose : Raised (faults old.journal.written) (faults new.journal.written)
  pub at : new.broken_at ≡ Some turn

-- why a record was not added
pub record AppendCauses {D T : Type 0} (faults : D → ℕ) (old new : Stored D) (payload : List ℕ) (turn : ℕ) (result : Result T AppendFault) : Type 0 where
  pub store : IsErrOf result Store → Breaks faults old new turn
  pub full : (n : ℕ) → IsErrOf result (Full n) ↔ ((n ≡ old.journal.end + 5 + length payload) × (LAST_NUMBER < n))
  pub same : (n : ℕ) → IsErrOf result (Full n) → new ≡ old
  pub steady : OnOk result (faults new.journal.written ≡ faults old.journal.written)
  pub later : faults old.journal.written ≤ faults new.journal.written
