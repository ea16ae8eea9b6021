-- The settings of `manage`: a JSON object whose members are read in order. The first value that is missing or wrong is told
-- by its path, and members that nobody names are passed over.
use Rattle.std.specs.Prelude.{ℕ, List, Result, Ok, codes}
use Rattle.serde_json.specs.Data.{Data}
use Rattle.sig_stream.specs.Steps.{◌>>=◌}
use Rattle.sig_settings.specs.declared.fault.SettingsFault.{SettingsFault}
use Rattle.sig_settings.specs.Members.{needed, optional}
use Rattle.sig_settings.specs.Objects.{settings_of}
use Rattle.sig_settings.specs.Places.{place_at}
use Rattle.sig_settings.specs.Texts.{bearer_at}
use Rattle.sig_declared.specs.declared.settings.ManageSettings.{ManageSettings}
use Rattle.sig_declared.specs.Providers.{endpoint_in, provider_of}
use Rattle.sig_declared.specs.Streams.{streams_at}

-- what an object says
abbrev pub manage_settings_in : Data → Result ManageSettings SettingsFault
manage_settings_in d = do
  bearer ← needed bearer_at (codes "bearer") d
  endpoint ← endpoint_in d
  declared ← needed streams_at (codes "streams") d
  gateway ← optional place_at (codes "tls_gateway") d
  Ok (record { provider = provider_of bearer endpoint gateway; declared = declared })

-- what bytes say
unfoldable pub manage_settings_of : List ℕ → Result ManageSettings SettingsFault
manage_settings_of bytes = settings_of bytes >>= manage_settings_in
