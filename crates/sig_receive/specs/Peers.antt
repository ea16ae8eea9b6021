-- The settings of a fetch: those of a receiver that name a transmitter to fetch from.
use Rattle.std.specs.Prelude.{ℕ, List, Option, Some, None, Result, Ok, Err, codes}
use Rattle.sig_rxnode.specs.declared.rules.Peer.{Peer}
use Rattle.sig_rxsettings.specs.declared.settings.RxSettings.{RxSettings}
use Rattle.sig_rxsettings.specs.Settings.{rx_settings_of}
use Rattle.sig_settings.specs.declared.fault.SettingsFault.{SettingsFault}
use Rattle.sig_settings.specs.declared.fault.SettingsFault.TheVariants.{Refused}
use Rattle.sig_stream.specs.Steps.{◌>>=◌}
use Rattle.sig_opening.specs.Settings as settings

-- what a fetch goes by: what the settings say, and the transmitter that they name
pub record FetchSettings : Type 0 where
  pub said : RxSettings
  pub peer : Peer

-- settings without `poll` are refused at it
abbrev pub with_peer : RxSettings → Option Peer → Result FetchSettings SettingsFault
with_peer said (Some peer) = Ok (record { said = said; peer = peer })
with_peer said None = Err (Refused (codes "poll"))

abbrev pub needs_peer : RxSettings → Result FetchSettings SettingsFault
needs_peer said = with_peer said said.rules.peer

-- what bytes say of a fetch
abbrev pub fetch_settings_of : List ℕ → Result FetchSettings SettingsFault
fetch_settings_of bytes = rx_settings_of bytes >>= needs_peer

-- where the settings are told, they say this
abbrev pub SaysFetch : Option (List ℕ) → FetchSettings → Type 0
SaysFetch told said = settings.Says fetch_settings_of told said

-- where they are told, they are refused at this member
abbrev pub FetchRefused : Option (List ℕ) → List ℕ → Type 0
FetchRefused told member = settings.AreRefused fetch_settings_of told member
