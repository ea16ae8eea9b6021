-- What a disk in memory keeps, and what each call of it leaves.
use Rattle.std.specs.Prelude.{◌≡◌, ◌⊎◌, ℕ, ◌+◌, ◌-◌, ◌^◌, ◌≤◌, min, List, [], ◌∷◌, ◌++◌, length, take, Bool, true, false, not, ◌&&◌, nat_eq, nat_lt, Option, Some, None, Result, Ok, Err, Vec}
use Rattle.std.specs.declared.alloc.Global.{Global}
use Rattle.std.specs.List.{list_any}
use Rattle.sig_outside.specs.declared.disk_call.DiskCall.{DiskCall}
use Rattle.sig_outside.specs.declared.disk_call.Standstill.{Standstill}
use Rattle.sig_outside.specs.Disk.{Stop}
use Rattle.sig_outside.specs.DiskCalls.{content, Leaves, resting}

-- the bytes that it was made with, each call since that changed or kept the file, the numbers of the calls that are to fail, with how many were made and failed, whether it was refused memory, and where it stands still
pub record Kept : Type 0 where
  pub first : List ℕ
  pub calls : List DiskCall
  pub failing : List ℕ
  pub made : ℕ
  pub faults : ℕ
  pub short : Bool
  pub stop : Option Standstill

-- what reads give
abbrev pub seen : Kept → List ℕ
seen disk = content disk.first disk.calls

-- what a crash now may leave
abbrev pub may_leave : Kept → List ℕ → Type 0
may_leave disk image = Leaves disk.first disk.first disk.calls image

-- what a crash after the call t or a later one might have left
abbrev pub left_since : Kept → ℕ → List ℕ → Type 0
left_since disk t image =
    (n : ℕ) × (t ≤ n) × (n ≤ length disk.calls) × Leaves disk.first disk.first (take n disk.calls) image

-- it stands still where it is asked to, unless it was made with calls that are to fail
abbrev pub tells_stop : List ℕ → Bool
tells_stop [] = true
tells_stop (number ∷ numbers) = false

abbrev pub stop_at : List ℕ → List DiskCall → Option Standstill → Option Stop
stop_at first calls None = None
stop_at first calls (Some still) = Some (record { calls = still.calls; fill = still.fill; image = resting still.fill first first calls })

abbrev pub stop_told : Bool → List ℕ → List DiskCall → Option Standstill → Option Stop
stop_told true first calls still = stop_at first calls still
stop_told false first calls still = None

-- what it tells of its stop
abbrev pub stop_of : Kept → Option Stop
stop_of disk = stop_told (tells_stop disk.failing) disk.first disk.calls disk.stop

-- what it rests with, or what reads give where no stop was set
abbrev pub rest_of : Option Standstill → List ℕ → List DiskCall → List ℕ
rest_of None first calls = content first calls
rest_of (Some still) first calls = resting still.fill first first calls

-- a stop leaves a further call
abbrev pub goes_on : Option Standstill → Bool
goes_on None = true
goes_on (Some still) = nat_lt 0 still.calls

-- the next call isn't one that is to fail, and no stop stands before it
abbrev pub may_go : Kept → Bool
may_go disk = not (list_any (nat_eq disk.made) disk.failing) && goes_on disk.stop

abbrev pub used : Option Standstill → Option Standstill
used None = None
used (Some still) = Some (record { calls = still.calls - 1; fill = still.fill })

-- the call has its number
abbrev pub began : Kept → Kept
began disk = record disk { made = min (disk.made + 1) (2 ^ 64 - 1) }

-- the call did this to the file
abbrev pub with_calls : List DiskCall → Kept → Kept
with_calls more disk = record disk { calls = disk.calls ++ more }

-- the call was made
abbrev pub ended : Kept → Kept
ended disk = record disk { stop = used disk.stop }

-- the call failed
abbrev pub failed : Kept → Kept
failed disk = record disk { faults = min (disk.faults + 1) (2 ^ 64 - 1) }

-- the call was refused memory
abbrev pub starved : Kept → Kept
starved disk = record disk { short = true }

-- a call that is to do this to the file does it and no more, or fails and changes its counts alone: it was to fail, or a stop stands before it, or it was refused memory
abbrev pub Makes : {T E : Type 0} → List DiskCall → Kept → Kept → Result T E → Type 0
Makes more old new (Ok x) = (may_go old ≡ true) × (new ≡ ended (with_calls more (began old)))
Makes more old new (Err e) =
    ((may_go old ≡ false) × (new ≡ failed (began old))) ⊎ ((may_go old ≡ true) × (new ≡ failed (starved (began old))))

-- a call that changes nothing of the file: it needs no memory
abbrev pub Looks : {T E : Type 0} → Kept → Kept → Result T E → Type 0
Looks old new (Ok x) = (may_go old ≡ true) × (new ≡ ended (began old))
Looks old new (Err e) = (may_go old ≡ false) × (new ≡ failed (began old))

-- the bytes as they were changed, or the first ones
abbrev pub bytes_now : List ℕ → Option (Vec ℕ Global) → List ℕ
bytes_now first None = first
bytes_now first (Some changed) = changed.items
