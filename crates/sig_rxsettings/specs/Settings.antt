-- The settings of a receiver: a JSON object whose members are read in order. The first value that is missing or wrong is told
-- by its path, and members that nobody names are passed over.
use Rattle.std.specs.Prelude.{ℕ, List, Result, Ok, codes}
use Rattle.serde_json.specs.Data.{Data}
use Rattle.sig_stream.specs.Steps.{◌>>=◌}
use Rattle.sig_settings.specs.declared.fault.SettingsFault.{SettingsFault}
use Rattle.sig_settings.specs.Members.{needed, optional}
use Rattle.sig_settings.specs.Objects.{settings_of}
use Rattle.sig_settings.specs.Places.{place_at}
use Rattle.sig_settings.specs.Texts.{bearer_at, text_at}
use Rattle.sig_rxsettings.specs.declared.settings.RxSettings.{RxSettings}
use Rattle.sig_rxsettings.specs.Issuers.{issuers_at}
use Rattle.sig_rxsettings.specs.Peers.{peer_in, with_gateway}
use Rattle.sig_rxsettings.specs.Principals.{principals_in}

-- what an object says
abbrev pub rx_settings_in : Data → Result RxSettings SettingsFault
rx_settings_in d = do
  audience ← needed text_at (codes "audience") d
  listen ← needed place_at (codes "listen") d
  reader ← needed bearer_at (codes "reader") d
  issuers ← needed issuers_at (codes "issuers") d
  principals ← principals_in reader d
  peer ← peer_in reader principals d
  gateway ← optional place_at (codes "tls_gateway") d
  Ok (record {
    rules = record { trust = record { audience = audience; issuers = issuers }; principals = principals; reader = reader; peer = with_gateway gateway peer };
    listen = listen;
  })

-- what bytes say
unfoldable pub rx_settings_of : List ℕ → Result RxSettings SettingsFault
rx_settings_of bytes = settings_of bytes >>= rx_settings_in
