-- A store of two such disks that was made new, and the records that it holds.
use Rattle.std.specs.Prelude.{◌≡◌, ℕ, ◌+◌, List, [], ◌∷◌, ◌++◌, length, Bool, true, false, Option, Some, None, Result, Ok, Err, nat_lt, if◌then◌else◌}
use Rattle.sig_json.specs.declared.limits.TheConstants.{LAST_NUMBER}
use Rattle.sig_outside.specs.KeptDisk.{Kept, left_since, may_leave, seen}
use Rattle.sig_journal.specs.Journal.{IsAtRest, told_store}
use Rattle.sig_journal.specs.Layout.{end_of}
use Rattle.sig_journal.specs.OnlyRead.{OnlyRead}
use Rattle.sig_journal.specs.Store.{Told}
use Rattle.sig_journal.specs.Stored.{Stored}
use Rattle.sig_still.specs.Still.{faults, moment, tells_file}

-- what a store of this name with these records tells; the first file is in force
abbrev pub store_of : List ℕ → List (List ℕ) → Told
store_of name records = record { in_b = false; content = record { store_id = name; snapshot = []; records = records } }

-- where its journal ends
abbrev pub end_at : List ℕ → List (List ℕ) → ℕ
end_at name records = end_of (store_of name records).content

-- the place past LAST_NUMBER where a journal that ends here would end with one more record, where there is one
abbrev pub past_end : ℕ → Option (List ℕ) → Option ℕ
past_end end None = None
past_end end (Some payload) = if nat_lt LAST_NUMBER (end + 5 + length payload) then Some (end + 5 + length payload) else None

-- a list with one more, where it was kept
abbrev pub with_kept : {T : Type 0} → Bool → List T → T → List T
with_kept true items item = items ++ item ∷ []
with_kept false items item = items

-- a store that isn't broken, whose files a crash leaves as they are, holds these records
pub record HoldsStore (name : List ℕ) (records : List (List ℕ)) (stored : Stored Kept) : Type 0 where
  pub whole : stored.broken_at ≡ None
  pub tells : told_store seen stored.journal ≡ Ok (store_of name records)
  pub rests : IsAtRest tells_file seen may_leave stored.journal

-- a file that was only read or synced
abbrev pub Reads : Kept → Kept → Type 0
Reads old new = OnlyRead tells_file seen may_leave moment left_since faults old new

-- a store whose files were
pub record ReadsBoth (old new : Stored Kept) : Type 0 where
  pub written : Reads old.journal.written new.journal.written
  pub other : Reads old.journal.other new.journal.other
  pub in_b : new.journal.in_b ≡ old.journal.in_b
  pub kind : new.journal.kind ≡ old.journal.kind
  pub records : new.journal.records ≡ old.journal.records
  pub end : new.journal.end ≡ old.journal.end
  pub broken_at : new.broken_at ≡ old.broken_at
