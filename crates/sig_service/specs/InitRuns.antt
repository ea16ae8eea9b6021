-- How a run of `init` ends: for each ending its status, its last line, and what became of the store's files.
use Rattle.std.specs.Prelude.{◌≡◌, ℕ, List, [], ◌++◌, codes, decimal}
use Rattle.sig_outside.specs.Causes.{Rose}
use Rattle.sig_command.specs.Moment.{OutputState}
use Rattle.sig_init.specs.Files.{Held, KeepsBut, LeavesAsItWas, MakesStore, StaysTold, TellsEmpty, file_a, file_b}
use Rattle.sig_init.specs.declared.ending.InitEnd.{InitEnd}
use Rattle.sig_init.specs.declared.ending.InitEnd.TheVariants.{Done, NotEmpty, Store, Memory}
use Rattle.sig_service.specs.Asking.{Asked}
use Rattle.sig_service.specs.LastLine.{PutLast}

-- the status of an ending
abbrev pub status_of : InitEnd → ℕ
status_of Done = 0
status_of (NotEmpty size) = 12
status_of Store = 5
status_of Memory = 9

-- its last line: none where the store is made
abbrev pub last_line : InitEnd → List ℕ
last_line Done = []
last_line (NotEmpty size) = codes "signals: not empty " ++ decimal size ++ codes "\n"
last_line Store = codes "signals: store failed\n"
last_line Memory = codes "signals: memory\n"

-- what became of the store's files in a making that ended so, as the outside told them before and tells them now
pub record MadeSo (ask : Asked) (e : InitEnd) (before now : Held) (faults new_faults : ℕ) : Type 0 where
  pub done : e ≡ Done → MakesStore ask.kind ask.store_id before now (file_a ask.store) (file_b ask.store)
  pub tells : e ≡ Done → TellsEmpty ask.kind ask.store_id before now (file_a ask.store) (file_b ask.store)
  pub not_empty : (size : ℕ) → e ≡ NotEmpty size → LeavesAsItWas size before now (file_a ask.store) (file_b ask.store)
  pub store : e ≡ Store → Rose faults new_faults
  pub steady : (e ≡ Store → ⊥) → new_faults ≡ faults
  pub memory : e ≡ Memory → now ≡ before
  pub back : StaysTold before now (file_a ask.store) × StaysTold before now (file_b ask.store)
  pub others : KeepsBut (file_a ask.store) (file_b ask.store) before now

-- the run of `init` ended with this status: by the ending of the making and its last line
abbrev pub InitRan : Asked → Held → Held → ℕ → ℕ → OutputState → OutputState → ℕ → Type 0
InitRan ask held new_held faults new_faults before after status =
    (e : InitEnd) × MadeSo ask e held new_held faults new_faults × PutLast (status_of e) (last_line e) before after status
