-- The settings of a transmitter: a JSON object whose members are read in order. The first value that is missing or wrong is told
-- by its path, and members that nobody names are passed over.
use Rattle.std.specs.Prelude.{ℕ, List, Result, Ok, codes}
use Rattle.serde_json.specs.Data.{Data}
use Rattle.sig_terms.specs.declared.rules.Rules.{Rules}
use Rattle.sig_stream.specs.Steps.{◌>>=◌}
use Rattle.sig_settings.specs.declared.fault.SettingsFault.{SettingsFault}
use Rattle.sig_settings.specs.Keys.{key_at}
use Rattle.sig_settings.specs.Members.{needed, optional}
use Rattle.sig_settings.specs.Objects.{settings_of}
use Rattle.sig_settings.specs.Places.{place_at}
use Rattle.sig_settings.specs.Texts.{bearer_at, filled_at, text_at}
use Rattle.sig_txsettings.specs.declared.settings.TxSettings.{TxSettings}
use Rattle.sig_txsettings.specs.Clients.{clients_in}
use Rattle.sig_txsettings.specs.Values.{defaults_at, interval_at}

-- the rules of a transmitter with this issuer and this prefix of its addresses
abbrev pub rules_in : List ℕ → List ℕ → Data → Result Rules SettingsFault
rules_in issuer base d = do
  operator ← needed bearer_at (codes "operator") d
  defaults ← needed defaults_at (codes "default_subjects") d
  interval ← needed interval_at (codes "min_verification_interval") d
  key ← needed key_at (codes "key") d
  clients ← clients_in operator d
  gateway ← optional place_at (codes "tls_gateway") d
  Ok (record { issuer = issuer; base = base; defaults = defaults; interval = interval; gateway = gateway; operator = operator; clients = clients; key = key })

-- what an object says
abbrev pub tx_settings_in : Data → Result TxSettings SettingsFault
tx_settings_in d = do
  issuer ← needed filled_at (codes "issuer") d
  base ← needed text_at (codes "base") d
  listen ← needed place_at (codes "listen") d
  rules ← rules_in issuer base d
  Ok (record { rules = rules; listen = listen })

-- what bytes say
unfoldable pub tx_settings_of : List ℕ → Result TxSettings SettingsFault
tx_settings_of bytes = settings_of bytes >>= tx_settings_in
