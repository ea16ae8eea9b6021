-- How a run of `courier` ends: for each ending its status, its last line, and what became of what the outside tells.
use Rattle.std.specs.Prelude.{◌≡◌, ℕ, List, [], ◌++◌, codes, decimal}
use Rattle.sig_outside.specs.Causes.{Rose}
use Rattle.sig_command.specs.Moment.{InputState, Moment, OutputState}
use Rattle.sig_init.specs.Files.{KeepsBut, StaysTold, file_a, file_b}
use Rattle.sig_opening.specs.Files.{LackOne}
use Rattle.sig_opening.specs.Stays.{KeepsOtherSettings}
use Rattle.sig_serve.specs.Ends as tx
use Rattle.sig_ticking.specs.Runs.{CouriersBy, UnlessThere}
use Rattle.sig_ticking.specs.Sides.{Beside}
use Rattle.sig_ticking.specs.declared.ending.CourierEnd.{CourierEnd}
use Rattle.sig_ticking.specs.declared.ending.CourierEnd.TheVariants.{Done, SettingsFailed, Refused, NoStore, StoreFailed, Damaged, InputFailed, OutputFailed, Full, Endless, Memory}
use Rattle.sig_service.specs.Asking.{CourierAsked}
use Rattle.sig_service.specs.LastLine.{PutLast}
use Rattle.sig_service.specs.Outside.{OutsideState}
use Rattle.sig_service.specs.ServerRuns.{damaged_line}

-- ---- its last line

-- the status of an ending
abbrev pub status_of : CourierEnd → ℕ
status_of Done = 0
status_of SettingsFailed = 3
status_of (Refused member) = 10
status_of NoStore = 6
status_of StoreFailed = 5
status_of (Damaged file at) = 6
status_of InputFailed = 3
status_of OutputFailed = 4
status_of (Full n) = 11
status_of (Endless n) = 11
status_of Memory = 9

-- the line of a number that is too great
abbrev pub full_line : ℕ → List ℕ
full_line n = codes "signals: full " ++ decimal n ++ codes "\n"

-- its last line: none where the input ended, or the output stopped
abbrev pub last_line : CourierEnd → List ℕ
last_line Done = []
last_line SettingsFailed = codes "signals: input failed\n"
last_line (Refused member) = codes "signals: settings " ++ member ++ codes "\n"
last_line NoStore = codes "signals: no store\n"
last_line StoreFailed = codes "signals: store failed\n"
last_line (Damaged file at) = damaged_line file at
last_line InputFailed = codes "signals: input failed\n"
last_line OutputFailed = []
last_line (Full n) = full_line n
last_line (Endless n) = full_line n
last_line Memory = codes "signals: memory\n"

-- ---- what it did

-- what the outside tells of the files of a store, and of the sides
abbrev pub beside_store : List ℕ → OutsideState → Beside
beside_store store now = record { a = now.stores (file_a store); b = now.stores (file_b store); ahead = now.sides.ahead; back = now.sides.back }

-- what a run that ended so did: its cause, its ticks from the store that was opened to the one that was put back, by the input
-- and to the output, and what stays as it was
pub record CourieredSo (ask : CourierAsked) (e : CourierEnd) (before now : OutsideState) (start end : Moment) : Type 0 where
  pub settings_failed : e ≡ SettingsFailed → Rose before.settings_faults now.settings_faults
  pub refused : (member : List ℕ) → e ≡ Refused member → tx.AreRefused (before.settings ask.settings) member
  pub no_store : e ≡ NoStore → LackOne (before.there (file_a ask.store)) (before.there (file_b ask.store))
  pub store_failed : e ≡ StoreFailed → Rose before.store_faults now.store_faults
  pub damaged : (file at : ℕ) → e ≡ Damaged file at → tx.IsDamaged (before.stores (file_a ask.store)) (before.stores (file_b ask.store)) file at
  pub couriers : CouriersBy (before.settings ask.settings) e (beside_store ask.store before) (beside_store ask.store now) start end
  pub there : now.there ≡ before.there
  pub missing : UnlessThere (before.there (file_a ask.store)) (before.there (file_b ask.store)) e (beside_store ask.store before) (beside_store ask.store now) start end
  pub back : StaysTold before.stores now.stores (file_a ask.store) × StaysTold before.stores now.stores (file_b ask.store)
  pub others : KeepsBut (file_a ask.store) (file_b ask.store) before.stores now.stores
  pub settings : KeepsOtherSettings ask.settings before.settings now.settings
  pub doors : now.doors ≡ before.doors

-- the run of `courier` ended with this status: by the ending of its ticks, after which the output stood so, and its last line
abbrev pub CourierRan : CourierAsked → OutsideState → OutsideState → InputState → InputState → OutputState → OutputState → ℕ → Type 0
CourierRan ask held new_held input new_input before after status =
    (e : CourierEnd) × (told : OutputState)
    × CourieredSo ask e held new_held (record { input = input; output = before }) (record { input = new_input; output = told })
    × PutLast (status_of e) (last_line e) told after status
