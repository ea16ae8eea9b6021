-- What the outside tells of a transmitter's settings and of its store.
use Rattle.std.specs.Prelude.{ℕ, List, Option, Result}
use Rattle.sig_journal.specs.declared.fault.LoadFault.{LoadFault}
use Rattle.sig_history.specs.Owed.{Sum}
use Rattle.sig_txsettings.specs.declared.settings.TxSettings.{TxSettings}
use Rattle.sig_txsettings.specs.Settings.{tx_settings_of}
use Rattle.sig_txend.specs.Stores as stores
use Rattle.sig_opening.specs.Files as files
use Rattle.sig_opening.specs.Settings as settings

-- ---- settings

-- where the settings are told, they say this
abbrev pub Says : Option (List ℕ) → TxSettings → Type 0
Says told said = settings.Says tx_settings_of told said

-- where they are told, they are refused at this member
abbrev pub AreRefused : Option (List ℕ) → List ℕ → Type 0
AreRefused told member = settings.AreRefused tx_settings_of told member

-- ---- the store

-- the state that a transmitter's store of these two files stands for, or where it is damaged
abbrev pub state_of : List ℕ → List ℕ → Result Sum LoadFault
state_of = stores.state_of

-- where both files are told, the store stands for this state
abbrev pub StandsForState : Option (List ℕ) → Option (List ℕ) → Sum → Type 0
StandsForState a b state = files.StandsForState state_of a b state

-- where both are told, the store is damaged there
abbrev pub IsDamaged : Option (List ℕ) → Option (List ℕ) → ℕ → ℕ → Type 0
IsDamaged a b file at = files.IsDamaged state_of a b file at
