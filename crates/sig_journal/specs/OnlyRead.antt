-- What reading and syncing a file leave as it was.
use Rattle.std.specs.Prelude.{◌≡◌, ℕ, ◌≤◌, List, Bool}
use Rattle.sig_outside.specs.Disk.{LeavesOnly, Unchanged}

-- a file that was read or synced and not written: it reads as before, and at each moment a crash left what it might have left before
pub record OnlyRead {D : Type 0} (told : D → Bool) (seen : D → List ℕ) (may_leave : D → List ℕ → Type 0) (moment : D → ℕ) (left_since : D → ℕ → List ℕ → Type 0) (faults : D → ℕ) (old new : D) : Type 0 where
  pub told_same : told new ≡ told old
  pub bytes_same : seen new ≡ seen old
  pub no_image : Unchanged (may_leave old) (may_leave new)
  pub any_moment : LeavesOnly moment left_since old new (may_leave old)
  pub counts : faults old ≤ faults new
