-- The clients of a transmitter.
use Rattle.std.specs.Prelude.{ℕ, ◌&&◌, List, [], ◌∷◌, length, Bool, nat_le, nat_lt, Result, Ok, Err, codes, if◌then◌else◌}
use Rattle.serde_json.specs.Data.{Data}
use Rattle.sig_json.specs.declared.limits.TheConstants.{CLIENTS}
use Rattle.sig_terms.specs.declared.rules.Client.{Client}
use Rattle.sig_history.specs.Sound.{is_client_name}
use Rattle.sig_stream.specs.Steps.{◌>>=◌}
use Rattle.sig_settings.specs.declared.fault.SettingsFault.{SettingsFault}
use Rattle.sig_settings.specs.declared.fault.ValueFault.{ValueFault}
use Rattle.sig_settings.specs.Bearers.{differ, placed_from}
use Rattle.sig_settings.specs.Lists.{each_once, list_at}
use Rattle.sig_settings.specs.Members.{is_whole, itself, member_at, needed}
use Rattle.sig_settings.specs.Texts.{bearer_at, text_at, text_where}

-- ---- a client

-- its name: 1 to 32 of `a-z` and `0-9`
abbrev pub client_name_at : Data → Result (List ℕ) ValueFault
client_name_at d = text_where is_client_name d

abbrev pub where_filled : List (List ℕ) → Result (List (List ℕ)) ValueFault
where_filled texts = if nat_lt 0 (length texts) then Ok texts else Err itself

-- whom its tokens are for: one or more texts
abbrev pub audience_at : Data → Result (List (List ℕ)) ValueFault
audience_at d = list_at text_at d >>= where_filled

-- an object `{"aud", "bearer", "name"}`
abbrev pub client_at : Data → Result Client ValueFault
client_at d = do
  whole ← is_whole d
  aud ← member_at audience_at (codes "aud") d
  bearer ← member_at bearer_at (codes "bearer") d
  name ← member_at client_name_at (codes "name") d
  Ok (record { name = name; bearer = bearer; aud = aud })

-- ---- clients

abbrev pub name_of : Client → List ℕ
name_of c = c.name

abbrev pub bearer_of : Client → List ℕ
bearer_of c = c.bearer

-- at most 64 clients with names of their own
abbrev pub are_apart : List Client → Bool
are_apart clients = nat_le (length clients) CLIENTS && each_once name_of clients

abbrev pub where_apart : List Client → Result (List Client) ValueFault
where_apart clients = if are_apart clients then Ok clients else Err itself

abbrev pub clients_at : Data → Result (List Client) ValueFault
clients_at d = list_at client_at d >>= where_apart

-- the bearers that are read up to the clients are the operator's and theirs, and they differ
abbrev pub have_own_bearers : List ℕ → List Client → Result (Unit {0}) SettingsFault
have_own_bearers operator clients = differ (operator ∷ []) (placed_from bearer_of (codes "clients") 0 clients)

-- the member `clients` of settings with this operator
unfoldable pub clients_in : List ℕ → Data → Result (List Client) SettingsFault
clients_in operator d = do
  clients ← needed clients_at (codes "clients") d
  own ← have_own_bearers operator clients
  Ok clients
