-- What is read of the settings of `manage` is what they say.
use Rattle.std.proofs.Common.{◌≡◌, ℕ, ◌+◌, List, Result, take, ap}
use Rattle.serde_json.specs.Data.{Data}
use Rattle.sig_json.specs.declared.limits.TheConstants.{SETTINGS_BYTES}
use Rattle.sig_stream.specs.Steps.{◌>>=◌}
use Rattle.sig_settings.specs.declared.fault.SettingsFault.{SettingsFault}
use Rattle.sig_declared.specs.Settings.{manage_settings_in, manage_settings_of}
use Rattle.sig_opening.proofs.SettingsLemmas.{settings_cut}

-- settings that are too long are refused by as many bytes as are read of them
pub manage_cut : (all : List ℕ) → manage_settings_of (take (SETTINGS_BYTES + 1) all) ≡ manage_settings_of all
unfolding manage_settings_of
manage_cut all = ap (λ (d : Result Data SettingsFault). d >>= manage_settings_in) (settings_cut all)
