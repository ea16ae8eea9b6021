-- What a checkpoint makes of a store, and of the journal that is open over it.
use Rattle.std.specs.Prelude.{◌≡◌, ◌⊎◌, ℕ, ◌+◌, List, [], true, false, not, Result, Ok, Err}
use Rattle.sig_journal.specs.declared.fault.LoadFault.{LoadFault}
use Rattle.sig_journal.specs.Journal.{Open, SameFiles, store_with}
use Rattle.sig_journal.specs.Store.{Told}

-- the same store with this snapshot in place of its records, its other file in force
abbrev pub compacted : Result Told LoadFault → List ℕ → Result Told LoadFault
compacted (Ok told) snapshot = Ok (record { in_b = not told.in_b; content = record { store_id = told.content.store_id; snapshot = snapshot; records = [] } })
compacted (Err fault) snapshot = Err fault

-- what the store tells where the file that isn't in force is this image
abbrev pub beside_store : {D : Type 0} → (D → List ℕ) → Open D → List ℕ → Result Told LoadFault
beside_store seen journal image = store_with journal.in_b journal.kind (seen journal.written) image

-- a store tells what it told before, or that with the snapshot in place of its records
abbrev pub IsBeforeOrCompacted : Result Told LoadFault → List ℕ → Result Told LoadFault → Type 0
IsBeforeOrCompacted before snapshot now = (now ≡ before) ⊎ (now ≡ compacted before snapshot)

-- the file that a checkpoint wrote: it is in force where that succeeded, and the other one where it didn't
abbrev pub file_written : {D T E : Type 0} → Result T E → Open D → D
file_written (Ok x) journal = journal.written
file_written (Err fault) journal = journal.other

-- the journal's numbers with a snapshot of so many bytes in place of the records, which the file that wasn't in force holds
pub record HasSnapshot {D : Type 0} (old new : Open D) (size : ℕ) : Type 0 where
  pub in_b : new.in_b ≡ not old.in_b
  pub kind : new.kind ≡ old.kind
  pub records : new.records ≡ 0
  pub end : new.end ≡ 36 + size
  pub broken : new.broken ≡ false
  pub generation : new.generation ≡ old.generation + 1
  pub other_open : new.other_open ≡ true
  pub store_id : new.store_id ≡ old.store_id

-- the journal is broken, and its numbers are as they were
pub record IsBroken {D : Type 0} (old new : Open D) : Type 0 where
  pub in_b : new.in_b ≡ old.in_b
  pub kind : new.kind ≡ old.kind
  pub records : new.records ≡ old.records
  pub end : new.end ≡ old.end
  pub broken : new.broken ≡ true
  pub files : SameFiles old new
