-- Who may push tokens to a receiver, and for whom.
use Rattle.std.specs.Prelude.{ℕ, List, [], ◌∷◌, length, nat_le, Result, Ok, Err, codes, if◌then◌else◌}
use Rattle.serde_json.specs.Data.{Data}
use Rattle.sig_json.specs.declared.limits.TheConstants.{PRINCIPALS}
use Rattle.sig_rxnode.specs.declared.rules.Principal.{Principal}
use Rattle.sig_stream.specs.Steps.{◌>>=◌}
use Rattle.sig_settings.specs.declared.fault.SettingsFault.{SettingsFault}
use Rattle.sig_settings.specs.declared.fault.ValueFault.{ValueFault}
use Rattle.sig_settings.specs.Bearers.{differ, placed_from}
use Rattle.sig_settings.specs.Lists.{list_at}
use Rattle.sig_settings.specs.Members.{is_whole, itself, member_at, needed}
use Rattle.sig_settings.specs.Texts.{bearer_at, text_at}

-- an object `{"bearer", "iss"}`
abbrev pub principal_at : Data → Result Principal ValueFault
principal_at d = do
  whole ← is_whole d
  bearer ← member_at bearer_at (codes "bearer") d
  iss ← member_at text_at (codes "iss") d
  Ok (record { bearer = bearer; iss = iss })

abbrev pub bearer_of : Principal → List ℕ
bearer_of p = p.bearer

-- at most 64 principals
abbrev pub where_few : List Principal → Result (List Principal) ValueFault
where_few principals = if nat_le (length principals) PRINCIPALS then Ok principals else Err itself

abbrev pub principals_at : Data → Result (List Principal) ValueFault
principals_at d = list_at principal_at d >>= where_few

-- the bearers that are read up to the principals are the reader's and theirs, and they differ
abbrev pub have_own_bearers : List ℕ → List Principal → Result (Unit {0}) SettingsFault
have_own_bearers reader principals = differ (reader ∷ []) (placed_from bearer_of (codes "principals") 0 principals)

-- the member `principals` of settings with this reader
unfoldable pub principals_in : List ℕ → Data → Result (List Principal) SettingsFault
principals_in reader d = do
  principals ← needed principals_at (codes "principals") d
  own ← have_own_bearers reader principals
  Ok principals
