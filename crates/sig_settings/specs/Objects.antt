-- The object that settings are (RFC 8259).
use Rattle.std.specs.Prelude.{ℕ, List, length, nat_le, option_and_then, Result, Err, ok_or, codes, if◌then◌else◌}
use Rattle.serde_json.specs.Data.{Data}
use Rattle.sig_json.specs.declared.limits.TheConstants.{SETTINGS_BYTES}
use Rattle.sig_json.specs.Json.{json_of, object_itself}
use Rattle.sig_settings.specs.declared.fault.SettingsFault.{SettingsFault}
use Rattle.sig_settings.specs.declared.fault.SettingsFault.TheVariants.{Refused}

-- the object that bytes spell, where there aren't too many
abbrev pub settings_of : List ℕ → Result Data SettingsFault
settings_of bytes =
    if nat_le (length bytes) SETTINGS_BYTES then ok_or (option_and_then object_itself (json_of bytes)) (Refused (codes "body")) else Err (Refused (codes "length"))
