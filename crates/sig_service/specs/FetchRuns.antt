-- How a run of `fetch` ends: for each ending its status, its last line, and what became of what the outside tells.
use Rattle.std.specs.Prelude.{◌≡◌, ◌⊎◌, ℕ, List, ◌++◌, codes, decimal}
use Rattle.sig_outside.specs.Causes.{Rose}
use Rattle.sig_command.specs.Moment.{OutputState}
use Rattle.sig_init.specs.Files.{KeepsBut, StaysTold, file_a, file_b}
use Rattle.sig_fetch.specs.declared.fetched.Fetched.{Fetched}
use Rattle.sig_opening.specs.Files.{LackOne}
use Rattle.sig_opening.specs.Stays.{KeepsOtherSettings}
use Rattle.sig_receive.specs.Ends as rx
use Rattle.sig_receive.specs.Fetching.{FetchesBy, UnlessThere}
use Rattle.sig_receive.specs.Peers.{FetchRefused, fetch_settings_of}
use Rattle.sig_receive.specs.declared.ending.FetchEnd.{FetchEnd}
use Rattle.sig_receive.specs.declared.ending.FetchEnd.TheVariants.{Done, SettingsFailed, Refused, NoStore, StoreFailed, Damaged, NetworkFailed, Full, Peer, Memory}
use Rattle.sig_service.specs.Asking.{StoreAsked}
use Rattle.sig_service.specs.LastLine.{PutLast}
use Rattle.sig_service.specs.Outside.{OutsideState, beside_store}
use Rattle.sig_service.specs.ServerRuns.{IsReady, damaged_line}

-- ---- its last line

-- the status of an ending
abbrev pub status_of : FetchEnd → ℕ
status_of (Done fetched) = 0
status_of SettingsFailed = 3
status_of (Refused member) = 10
status_of NoStore = 6
status_of StoreFailed = 5
status_of (Damaged file at) = 6
status_of NetworkFailed = 7
status_of (Full n) = 11
status_of (Peer place) = 13
status_of Memory = 9

-- what was fetched
abbrev pub counts_line : Fetched → List ℕ
counts_line fetched =
    codes "rounds " ++ decimal fetched.rounds ++ codes " accepted " ++ decimal fetched.accepted
    ++ codes " seen " ++ decimal fetched.seen ++ codes " refused " ++ decimal fetched.refused ++ codes "\n"

-- its last line
abbrev pub last_line : FetchEnd → List ℕ
last_line (Done fetched) = counts_line fetched
last_line SettingsFailed = codes "signals: input failed\n"
last_line (Refused member) = codes "signals: settings " ++ member ++ codes "\n"
last_line NoStore = codes "signals: no store\n"
last_line StoreFailed = codes "signals: store failed\n"
last_line (Damaged file at) = damaged_line file at
last_line NetworkFailed = codes "signals: network failed\n"
last_line (Full n) = codes "signals: full " ++ decimal n ++ codes "\n"
last_line (Peer place) = codes "signals: peer " ++ place ++ codes "\n"
last_line Memory = codes "signals: memory\n"

-- ---- what it did

-- what a fetch that ended so did: its cause, its rounds from the store that was opened to the one that was put back, and what stays
-- as it was
pub record FetchedSo (ask : StoreAsked) (e : FetchEnd) (before now : OutsideState) : Type 0 where
  pub settings_failed : e ≡ SettingsFailed → Rose before.settings_faults now.settings_faults
  pub refused : (member : List ℕ) → e ≡ Refused member → FetchRefused (before.settings ask.settings) member
  pub no_store : e ≡ NoStore → LackOne (before.there (file_a ask.store)) (before.there (file_b ask.store))
  pub store_failed : e ≡ StoreFailed → Rose before.store_faults now.store_faults
  pub damaged : (file at : ℕ) → e ≡ Damaged file at → rx.IsDamaged (before.stores (file_a ask.store)) (before.stores (file_b ask.store)) file at
  pub network_failed : e ≡ NetworkFailed → Rose before.network_faults now.network_faults
  pub fetches : FetchesBy (before.settings ask.settings) e ask.count (beside_store ask.store before) (beside_store ask.store now)
  pub there : now.there ≡ before.there
  pub missing : UnlessThere (before.there (file_a ask.store)) (before.there (file_b ask.store)) e (beside_store ask.store before) (beside_store ask.store now)
  pub back : StaysTold before.stores now.stores (file_a ask.store) × StaysTold before.stores now.stores (file_b ask.store)
  pub others : KeepsBut (file_a ask.store) (file_b ask.store) before.stores now.stores
  pub settings : KeepsOtherSettings ask.settings before.settings now.settings
  pub doors : now.doors ≡ before.doors

-- the run of `fetch` ended with this status: by the ending of the fetch and its last line
abbrev pub FetchRan : StoreAsked → OutsideState → OutsideState → OutputState → OutputState → ℕ → Type 0
FetchRan ask held new_held before after status =
    (e : FetchEnd) × FetchedSo ask e held new_held × PutLast (status_of e) (last_line e) before after status

-- ---- where nothing fails

-- the settings are told, taken and name a transmitter, and the files of the store are told, are there and stand for a state
abbrev pub IsFetchable : StoreAsked → OutsideState → Type 0
IsFetchable ask now = IsReady fetch_settings_of rx.state_of ask now

-- the statuses with which a fetch ends then: it is done, memory ran out, the journal would be too long, or the transmitter gave no
-- page
abbrev pub EndsCalm : ℕ → Type 0
EndsCalm status = (status ≡ 0) ⊎ (status ≡ 9) ⊎ (status ≡ 11) ⊎ (status ≡ 13)
