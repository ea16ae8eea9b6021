-- What the outside tells of a receiver's settings and of its store.
use Rattle.std.specs.Prelude.{ℕ, List, Option, Result}
use Rattle.sig_journal.specs.declared.fault.LoadFault.{LoadFault}
use Rattle.sig_receiver.specs.Receiver.{Received}
use Rattle.sig_rxsettings.specs.declared.settings.RxSettings.{RxSettings}
use Rattle.sig_rxsettings.specs.Settings.{rx_settings_of}
use Rattle.sig_rxend.specs.Stores as stores
use Rattle.sig_opening.specs.Files as files
use Rattle.sig_opening.specs.Settings as settings

-- ---- settings

-- where the settings are told, they say this
abbrev pub Says : Option (List ℕ) → RxSettings → Type 0
Says told said = settings.Says rx_settings_of told said

-- where they are told, they are refused at this member
abbrev pub AreRefused : Option (List ℕ) → List ℕ → Type 0
AreRefused told member = settings.AreRefused rx_settings_of told member

-- ---- the store

-- what a receiver's store of these two files stands for, or where it is damaged
abbrev pub state_of : List ℕ → List ℕ → Result Received LoadFault
state_of = stores.state_of

-- where both files are told, the store stands for this state
abbrev pub StandsForState : Option (List ℕ) → Option (List ℕ) → Received → Type 0
StandsForState a b state = files.StandsForState state_of a b state

-- where both are told, the store is damaged there
abbrev pub IsDamaged : Option (List ℕ) → Option (List ℕ) → ℕ → ℕ → Type 0
IsDamaged a b file at = files.IsDamaged state_of a b file at
