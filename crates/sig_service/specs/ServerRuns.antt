-- How a run of `serve` or `receive` ends: for each ending its status, its last line, and what became of what the outside tells.
use Rattle.std.specs.Prelude.{◌≡◌, ◌==◌, ℕ, List, [], ◌++◌, true, Some, Result, Ok, codes, decimal, if◌then◌else◌}
use Rattle.sig_outside.specs.Causes.{Rose}
use Rattle.sig_command.specs.Moment.{OutputState}
use Rattle.sig_journal.specs.declared.fault.LoadFault.{LoadFault}
use Rattle.sig_init.specs.Files.{KeepsBut, StaysTold, file_a, file_b}
use Rattle.sig_settings.specs.declared.fault.SettingsFault.{SettingsFault}
use Rattle.sig_txsettings.specs.Settings.{tx_settings_of}
use Rattle.sig_rxsettings.specs.Settings.{rx_settings_of}
use Rattle.sig_logs.specs.declared.difference.Differ.TheVariants as differ
use Rattle.sig_opening.specs.Files.{LackOne}
use Rattle.sig_opening.specs.Stays.{KeepsOtherSettings}
use Rattle.sig_opening.specs.declared.ending.ServeEnd.{ServeEnd}
use Rattle.sig_opening.specs.declared.ending.ServeEnd.TheVariants.{Done, SettingsFailed, Refused, NoStore, StoreFailed, Damaged, NetworkFailed, Disagree, Memory}
use Rattle.sig_serve.specs.Ends as tx
use Rattle.sig_serve.specs.Serving as tx_serving
use Rattle.sig_receive.specs.Ends as rx
use Rattle.sig_receive.specs.Serving as rx_serving
use Rattle.sig_service.specs.Asking.{ServerAsked, StoreAsked}
use Rattle.sig_service.specs.LastLine.{PutLast}
use Rattle.sig_service.specs.Outside.{OutsideState, around_store}
use Rattle.sig_service.specs.declared.asking.Server.{Server}
use Rattle.sig_service.specs.declared.asking.Server.TheVariants.{Transmitter, Receiver}

-- ---- its last line

-- the status of an ending
abbrev pub status_of : ServeEnd → ℕ
status_of Done = 0
status_of SettingsFailed = 3
status_of (Refused member) = 10
status_of NoStore = 6
status_of StoreFailed = 5
status_of (Damaged file at) = 6
status_of NetworkFailed = 7
status_of (Disagree values) = 8
status_of Memory = 9

-- a file of a store as it is printed: 0 is the first one
abbrev pub file_word : ℕ → List ℕ
file_word file = if file == 0 then codes "a " else codes "b "

-- the line of a damaged store
abbrev pub damaged_line : ℕ → ℕ → List ℕ
damaged_line file at = codes "signals: damaged " ++ file_word file ++ decimal at ++ codes "\n"

-- its last line: none where all watches ran, or the door is shut
abbrev pub last_line : ServeEnd → List ℕ
last_line Done = []
last_line SettingsFailed = codes "signals: input failed\n"
last_line (Refused member) = codes "signals: settings " ++ member ++ codes "\n"
last_line NoStore = codes "signals: no store\n"
last_line StoreFailed = codes "signals: store failed\n"
last_line (Damaged file at) = damaged_line file at
last_line NetworkFailed = codes "signals: network failed\n"
last_line (Disagree (differ.Turn link place)) = codes "signals: disagree link " ++ decimal link ++ (codes " place " ++ decimal place ++ codes "\n")
last_line Memory = codes "signals: memory\n"

-- ---- what it did

-- what a serving that ended so did: its cause, by what refused settings and damaged stores are; its door and its watches, from
-- the store that was opened to the one that was put back; that it made no file; that without one of the store's it came to no
-- watch; and what stays as it was
pub record EndedSo (refused : List ℕ → Type 0) (damaged : ℕ → ℕ → Type 0) (serves unless_there : Type 0) (ask : StoreAsked) (e : ServeEnd) (before now : OutsideState) : Type 0 where
  pub settings_failed : e ≡ SettingsFailed → Rose before.settings_faults now.settings_faults
  pub refused_at : (member : List ℕ) → e ≡ Refused member → refused member
  pub no_store : e ≡ NoStore → LackOne (before.there (file_a ask.store)) (before.there (file_b ask.store))
  pub store_failed : e ≡ StoreFailed → Rose before.store_faults now.store_faults
  pub damaged_at : (file at : ℕ) → e ≡ Damaged file at → damaged file at
  pub network_failed : e ≡ NetworkFailed → Rose before.network_faults now.network_faults
  pub served : serves
  pub there : now.there ≡ before.there
  pub missing : unless_there
  pub back : StaysTold before.stores now.stores (file_a ask.store) × StaysTold before.stores now.stores (file_b ask.store)
  pub others : KeepsBut (file_a ask.store) (file_b ask.store) before.stores now.stores
  pub settings : KeepsOtherSettings ask.settings before.settings now.settings
  pub sides : now.sides ≡ before.sides

-- each server in its own terms
abbrev pub ServedSo : Server → StoreAsked → ServeEnd → OutsideState → OutsideState → Type 0
ServedSo Transmitter ask e before now =
    EndedSo (tx.AreRefused (before.settings ask.settings)) (tx.IsDamaged (before.stores (file_a ask.store)) (before.stores (file_b ask.store)))
    (tx_serving.ServesBy (before.settings ask.settings) e ask.count (around_store ask.store before) (around_store ask.store now))
    (tx_serving.UnlessThereBy (before.settings ask.settings) (before.there (file_a ask.store)) (before.there (file_b ask.store)) e (around_store ask.store before) (around_store ask.store now))
    ask e before now
ServedSo Receiver ask e before now =
    EndedSo (rx.AreRefused (before.settings ask.settings)) (rx.IsDamaged (before.stores (file_a ask.store)) (before.stores (file_b ask.store)))
    (rx_serving.ServesBy (before.settings ask.settings) e ask.count (around_store ask.store before) (around_store ask.store now))
    (rx_serving.UnlessThereBy (before.settings ask.settings) (before.there (file_a ask.store)) (before.there (file_b ask.store)) e (around_store ask.store before) (around_store ask.store now))
    ask e before now

-- the run of a server ended with this status: by the ending of the serving and its last line
abbrev pub ServerRan : ServerAsked → OutsideState → OutsideState → OutputState → OutputState → ℕ → Type 0
ServerRan ask held new_held before after status =
    (e : ServeEnd) × ServedSo ask.server ask.over e held new_held × PutLast (status_of e) (last_line e) before after status

-- ---- where nothing fails

-- the settings are told and taken by this reader, and the files of the store are told, are there and mean a state
pub record IsReady {T S : Type 0} (reads : List ℕ → Result T SettingsFault) (means : List ℕ → List ℕ → Result S LoadFault) (ask : StoreAsked) (now : OutsideState) : Type 0 where
  pub bytes : List ℕ
  pub told : now.settings ask.settings ≡ Some bytes
  pub said : T
  pub taken : reads bytes ≡ Ok said
  pub a : List ℕ
  pub a_told : now.stores (file_a ask.store) ≡ Some a
  pub b : List ℕ
  pub b_told : now.stores (file_b ask.store) ≡ Some b
  pub there : (now.there (file_a ask.store) ≡ Some true) × (now.there (file_b ask.store) ≡ Some true)
  pub state : S
  pub stands : means a b ≡ Ok state

abbrev pub servable : Server → StoreAsked → OutsideState → Type 0
servable Transmitter ask now = IsReady tx_settings_of tx.state_of ask now
servable Receiver ask now = IsReady rx_settings_of rx.state_of ask now

-- the settings and the store of this server are
abbrev pub IsServable : ServerAsked → OutsideState → Type 0
IsServable ask now = servable ask.server ask.over now
