-- Texts of settings.
use Rattle.std.specs.Prelude.{ℕ, ◌&&◌, List, length, Bool, nat_lt, Option, Some, None, Result, option_and_then, if◌then◌else◌}
use Rattle.std.specs.Char.{is_ascii_graphic}
use Rattle.std.specs.List.{list_all}
use Rattle.serde_json.specs.Data.{Data}
use Rattle.serde_json.specs.Find.{as_str}
use Rattle.sig_settings.specs.declared.fault.ValueFault.{ValueFault}
use Rattle.sig_settings.specs.Members.{found}

abbrev pub where_passing : (List ℕ → Bool) → List ℕ → Option (List ℕ)
where_passing test text = if test text then Some text else None

-- any text
abbrev pub text_at : Data → Result (List ℕ) ValueFault
text_at d = found (as_str d)

-- a text that passes a test
abbrev pub text_where : (List ℕ → Bool) → Data → Result (List ℕ) ValueFault
text_where test d = found (option_and_then (where_passing test) (as_str d))

-- a text that isn't empty
abbrev pub is_filled : List ℕ → Bool
is_filled text = nat_lt 0 (length text)

abbrev pub filled_at : Data → Result (List ℕ) ValueFault
filled_at d = text_where is_filled d

-- a bearer token (RFC 6750, section 2.1): one or more visible ASCII characters
abbrev pub is_bearer : List ℕ → Bool
is_bearer text = is_filled text && list_all is_ascii_graphic text

abbrev pub bearer_at : Data → Result (List ℕ) ValueFault
bearer_at d = text_where is_bearer d
