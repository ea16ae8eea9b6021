-- A store that stands for a state, and what a call that changes the state leaves of it.
use Rattle.std.specs.Prelude.{◌≡◌, ◌⊎◌, ℕ, ◌+◌, ◌≤◌, List, length, Bool, Option, Some, None, is_some, true, Result, Ok, OnOk}
use Rattle.sig_json.specs.declared.limits.TheConstants.{LAST_NUMBER}
use Rattle.sig_outside.specs.Disk.{LeavesOnly, Only, Stop}
use Rattle.sig_journal.specs.Added.{RestsWith}
use Rattle.sig_journal.specs.Journal.{BothTold, IsAtRest, Open, image_store, told_store}
use Rattle.sig_journal.specs.Appended.{WritesOne}
use Rattle.sig_journal.specs.Stored.{Stored}
use Rattle.sig_journal.specs.Taking.{Taking, loaded}

-- the store loads to this state where its file in force is this image
abbrev pub Loads : {S D : Type 0} → Taking S → (D → List ℕ) → Open D → S → List ℕ → Type 0
Loads taking seen journal state image = loaded taking (image_store seen journal image) ≡ Ok state

-- it loads to the first of two states, or to the second
abbrev pub LoadsEither : {S D : Type 0} → Taking S → (D → List ℕ) → Open D → S → S → List ℕ → Type 0
LoadsEither taking seen journal before after image = Loads taking seen journal before image ⊎ Loads taking seen journal after image

-- a record was being added when a call of the disk failed: each image loads to the state before it or after it
pub record InFlight {S D : Type 0} (taking : Taking S) (seen : D → List ℕ) (may_leave : D → List ℕ → Type 0) (journal : Open D) (state : S) : Type 0 where
  pub payload : List ℕ
  pub after : S
  pub change : taking.step state payload ≡ Some after
  pub images : (image : List ℕ) → may_leave journal.written image → LoadsEither taking seen journal state after image
  pub other : Only (seen journal.other) (may_leave journal.other)

-- where both files are told: the store loads to this state, and where it is broken, to this or to that after the change that was in flight
pub record StandsFor {S D : Type 0} (taking : Taking S) (told : D → Bool) (seen : D → List ℕ) (may_leave : D → List ℕ → Type 0) (stored : Stored D) (state : S) : Type 0 where
  pub tells : stored.broken_at ≡ None → BothTold told stored.journal → loaded taking (told_store seen stored.journal) ≡ Ok state
  pub leaves : is_some stored.broken_at ≡ true → BothTold told stored.journal → InFlight taking seen may_leave stored.journal state

-- what a call that makes a change by this record leaves: at any moment of it a crash leaves the state before or the state after; once it answers Ok no crash takes the change away; and a disk that stands still rests with one of the two
pub record Durable {S D T E : Type 0} (taking : Taking S) (told : D → Bool) (seen : D → List ℕ) (may_leave : D → List ℕ → Type 0) (moment : D → ℕ) (left_since : D → ℕ → List ℕ → Type 0) (stop : D → Option Stop) (short : D → Bool) (payload : List ℕ) (old new : Stored D) (before after : S) (result : Result T E) : Type 0 where
  pub any_moment : BothTold told old.journal → LeavesOnly moment left_since old.journal.written new.journal.written (LoadsEither taking seen old.journal before after)
  pub acknowledged : OnOk result (IsAtRest told seen may_leave new.journal × (BothTold told old.journal → loaded taking (told_store seen new.journal) ≡ Ok after))
  pub stopped : BothTold told old.journal → old.journal.end + 5 + length payload ≤ LAST_NUMBER
      → RestsWith (Loads taking seen old.journal before) (Loads taking seen old.journal after) (stop old.journal.written) (stop new.journal.written) (short new.journal.written) result
  pub files : WritesOne told old.journal new.journal
