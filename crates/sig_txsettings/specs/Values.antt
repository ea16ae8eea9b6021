-- The default subjects and the interval of verifications.
use Rattle.std.specs.Prelude.{ℕ, List, nat_le, bytes_eq, Option, Some, None, Result, option_and_then, codes, if◌then◌else◌}
use Rattle.serde_json.specs.Data.{Data}
use Rattle.serde_json.specs.Find.{as_number, as_str, as_u64}
use Rattle.sig_json.specs.declared.limits.TheConstants.{INTERVAL_SECONDS}
use Rattle.sig_terms.specs.declared.want.Defaults.{Defaults}
use Rattle.sig_terms.specs.declared.want.Defaults.TheVariants as defaults
use Rattle.sig_settings.specs.declared.fault.ValueFault.{ValueFault}
use Rattle.sig_settings.specs.Members.{found}

-- the default subjects that a text names (Shared Signals Framework 1.0, section 7.1)
abbrev pub defaults_named : List ℕ → Option Defaults
defaults_named text = if bytes_eq text (codes "ALL") then Some defaults.All else if bytes_eq text (codes "NONE") then Some defaults.None else None

abbrev pub defaults_at : Data → Result Defaults ValueFault
defaults_at d = found (option_and_then defaults_named (as_str d))

abbrev pub within_interval : ℕ → Option ℕ
within_interval seconds = if nat_le seconds INTERVAL_SECONDS then Some seconds else None

-- a whole number of seconds from 0 to 86,400
abbrev pub interval_at : Data → Result ℕ ValueFault
interval_at d = found (option_and_then within_interval (option_and_then as_u64 (as_number d)))
