-- What a disk that stands still wherever it is asked to tells, and what it rests with.
use Rattle.std.specs.Prelude.{List, ℕ, Bool, true, Option, Some, None, IfSome, length}
use Rattle.sig_outside.specs.declared.disk_call.DiskCall.{DiskCall}
use Rattle.sig_outside.specs.declared.disk_call.Standstill.{Standstill}
use Rattle.sig_outside.specs.Disk.{Stop}
use Rattle.sig_outside.specs.DiskCalls.{Leaves}
use Rattle.sig_outside.specs.DiskLaws.{leaves_resting}
use Rattle.sig_outside.specs.KeptDisk.{Kept, may_leave, rest_of, stop_at}

-- it tells its file, and stands still
abbrev pub tells_file : Kept → Bool
tells_file disk = true

abbrev pub stands_still : Kept → Bool
stands_still disk = true

abbrev pub moment : Kept → ℕ
moment disk = length disk.calls

abbrev pub faults : Kept → ℕ
faults disk = disk.faults

abbrev pub is_short : Kept → Bool
is_short disk = disk.short

-- how many calls it still makes, and what it rests with
abbrev pub stop : Kept → Option Stop
stop disk = stop_at disk.first disk.calls disk.stop

-- what it rests with, or what reads give where no stop was set
abbrev pub rest : Kept → List ℕ
rest disk = rest_of disk.stop disk.first disk.calls

-- it rests with one of the images of the file
rests_at : (first : List ℕ) (calls : List DiskCall) (still : Option Standstill) → IfSome (stop_at first calls still) (λ stop. Leaves first first calls stop.image)
rests_at first calls None = tt
rests_at first calls (Some still) = leaves_resting still.fill first first calls

pub rests_kept : (disk : Kept) → IfSome (stop disk) (λ stop. may_leave disk stop.image)
rests_kept disk = rests_at disk.first disk.calls disk.stop
