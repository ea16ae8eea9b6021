-- What a run of calls that write nothing leaves as it was.
use Rattle.std.proofs.Common.{◌≡◌, ℕ, ◌≤◌, List, Bool, Result, Ok, Err, ◌∙◌, arith}
use Rattle.sig_outside.specs.Causes.{HasCause}
use Rattle.sig_outside.specs.Disk.{Elapses, Unchanged}
use Rattle.sig_journal.specs.OnlyRead.{OnlyRead}
use Rattle.sig_journal.proofs.Moments.{started, goes_on}

module _ {D : Type 0} (told : D → Bool) (seen : D → List ℕ) (may_leave : D → List ℕ → Type 0) (moment : D → ℕ) (left_since : D → ℕ → List ℕ → Type 0) (faults : D → ℕ) where
  -- one call
  pub one_read : (old new : D) → ((image : List ℕ) → left_since old (moment old) image → may_leave old image) → told new ≡ told old → seen new ≡ seen old
      → Unchanged (may_leave old) (may_leave new) → Elapses (moment old) (moment new) (left_since old) (left_since new) (may_leave new) → faults old ≤ faults new
      → OnlyRead told seen may_leave moment left_since faults old new
  one_read old new only_now told_is seen_is images time counts = record {
    told_same = told_is;
    bytes_same = seen_is;
    no_image = images;
    any_moment = goes_on moment left_since old old new (may_leave old) (may_leave new) (started moment left_since old (may_leave old) only_now) time images;
    counts = counts;
  }

  -- one call more
  pub more_read : (old mid new : D) → OnlyRead told seen may_leave moment left_since faults old mid → told new ≡ told mid → seen new ≡ seen mid
      → Unchanged (may_leave mid) (may_leave new) → Elapses (moment mid) (moment new) (left_since mid) (left_since new) (may_leave new) → faults mid ≤ faults new
      → OnlyRead told seen may_leave moment left_since faults old new
  more_read old mid new so_far told_is seen_is images time counts = record {
    told_same = told_is ∙ so_far.told_same;
    bytes_same = seen_is ∙ so_far.bytes_same;
    no_image = λ image now. so_far.no_image image (images image now);
    any_moment = goes_on moment left_since old mid new (may_leave old) (may_leave new) so_far.any_moment time (λ image now. so_far.no_image image (images image now));
    counts = omega (arith, so_far.counts, counts);
  }

-- a call that failed or not lowers no count
pub counted : {T E : Type 0} (before now : ℕ) (result : Result T E) → HasCause before now result → before ≤ now
counted before now (Ok x) cause = omega (arith, cause.stays)
counted before now (Err e) cause = cause.failed.0
