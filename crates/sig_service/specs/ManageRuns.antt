-- How a run of `manage` ends: for each ending its status, its last line, and what became of what the outside tells.
use Rattle.std.specs.Prelude.{◌≡◌, ◌⊎◌, ℕ, List, [], ◌++◌, Some, Ok, codes, decimal}
use Rattle.sig_outside.specs.Causes.{Rose}
use Rattle.sig_command.specs.Moment.{OutputCalm, OutputState, OutputStopped}
use Rattle.sig_declared.specs.Settings.{manage_settings_of}
use Rattle.sig_declared.specs.declared.settings.ManageSettings.{ManageSettings}
use Rattle.sig_opening.specs.Settings.{AreRefused}
use Rattle.sig_opening.specs.Stays.{KeepsOtherSettings}
use Rattle.sig_managing.specs.Runs.{ManagesBy}
use Rattle.sig_managing.specs.declared.counts.Counts.{Counts}
use Rattle.sig_managing.specs.declared.ending.ManageEnd.{ManageEnd}
use Rattle.sig_managing.specs.declared.ending.ManageEnd.TheVariants.{Done, SettingsFailed, Refused, NetworkFailed, Peer, OutputFailed, Memory}
use Rattle.sig_service.specs.LastLine.{PutLast}
use Rattle.sig_service.specs.Outside.{OutsideState}

-- ---- its last line

-- the status of an ending
abbrev pub status_of : ManageEnd → ℕ
status_of (Done counts) = 0
status_of SettingsFailed = 3
status_of (Refused member) = 10
status_of NetworkFailed = 7
status_of (Peer place) = 13
status_of OutputFailed = 4
status_of Memory = 9

-- how many streams were created, replaced and deleted, and how many statuses were set
abbrev pub counts_line : Counts → List ℕ
counts_line counts =
    codes "created " ++ decimal counts.created ++ codes " replaced " ++ decimal counts.replaced
    ++ codes " deleted " ++ decimal counts.deleted ++ codes " status " ++ decimal counts.status ++ codes "\n"

-- its last line: none where the output stopped
abbrev pub last_line : ManageEnd → List ℕ
last_line (Done counts) = counts_line counts
last_line SettingsFailed = codes "signals: input failed\n"
last_line (Refused member) = codes "signals: settings " ++ member ++ codes "\n"
last_line NetworkFailed = codes "signals: network failed\n"
last_line (Peer place) = codes "signals: peer " ++ place ++ codes "\n"
last_line OutputFailed = []
last_line Memory = codes "signals: memory\n"

-- ---- what it did

-- what a run over these settings that ended so did: its cause, what it asked for over a side and put to the output, and what
-- stays as it was
pub record ManagedSo (settings : List ℕ) (e : ManageEnd) (before now : OutsideState) (start end : OutputState) : Type 0 where
  pub settings_failed : e ≡ SettingsFailed → Rose before.settings_faults now.settings_faults
  pub refused : (member : List ℕ) → e ≡ Refused member → AreRefused manage_settings_of (before.settings settings) member
  pub network_failed : e ≡ NetworkFailed → Rose before.network_faults now.network_faults
  pub output_failed : e ≡ OutputFailed → OutputStopped start end
  pub output_calm : (e ≡ OutputFailed → ⊥) → OutputCalm start end
  pub manages : ManagesBy (before.settings settings) e before.sides now.sides start end
  pub stores : (now.stores ≡ before.stores) × (now.there ≡ before.there) × (now.store_faults ≡ before.store_faults)
  pub others : KeepsOtherSettings settings before.settings now.settings
  pub doors : now.doors ≡ before.doors

-- the run of `manage` ended with this status: by its ending, after which the output stood so, and its last line
abbrev pub ManageRan : List ℕ → OutsideState → OutsideState → OutputState → OutputState → ℕ → Type 0
ManageRan settings held new_held before after status =
    (e : ManageEnd) × (told : OutputState)
    × ManagedSo settings e held new_held before told
    × PutLast (status_of e) (last_line e) told after status

-- ---- where nothing fails

-- the settings are told and taken
pub record IsManageable (settings : List ℕ) (now : OutsideState) : Type 0 where
  pub bytes : List ℕ
  pub told : now.settings settings ≡ Some bytes
  pub said : ManageSettings
  pub taken : manage_settings_of bytes ≡ Ok said

-- the statuses with which a run ends then: it is done, memory ran out, or the transmitter gave no answer that can be used
abbrev pub EndsCalm : ℕ → Type 0
EndsCalm status = (status ≡ 0) ⊎ (status ≡ 9) ⊎ (status ≡ 13)
