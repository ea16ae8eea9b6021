-- The parts of a receiver's snapshot: how each is spelled, and how it is read.
--
--     pair            the issuer and the identifier, as texts
--     session, account, device, opt
--                     one byte: the place of the value in its closed list, from 00
--     row             the JSON text of the subject as a text, session, account, device, reset and stale as flags, opt, and maybe the level
--                     as a text
use Rattle.std.specs.Prelude.{ℕ, List, [], ◌∷◌, ◌++◌, Bool, Result}
use Rattle.std.specs.List.{slice_get}
use Rattle.sig_fields.specs.Kinds as kinds
use Rattle.sig_fields.specs.Reading.{given, ruled, ◌>>=◌}
use Rattle.sig_inbox.specs.declared.pair.Pair.{Pair}
use Rattle.sig_sessions.specs.declared.row.Row.{Row}
use Rattle.sig_sessions.specs.Equality.{account_place, device_place, opt_place, session_place}
use Rattle.sig_sessions.specs.Spelled.{accounts, devices, opts, sessions}
use Rattle.sig_sessions.specs.Table.{has_row}
use Rattle.sig_entry.specs.Parts as parts

-- ---- pairs

abbrev pub pair_bytes : Pair → List ℕ
pair_bytes p = kinds.text_bytes p.iss ++ kinds.text_bytes p.jti

abbrev pub pair : List ℕ → Result (Pair × List ℕ) (List ℕ)
pair = do
  iss ← kinds.text
  jti ← kinds.text
  given (record { iss = iss; jti = jti })

-- ---- rows

-- what is known of a row, but its level
abbrev pub standing_bytes : Row → List ℕ
standing_bytes r =
    session_place r.session ∷ account_place r.account ∷ device_place r.device
    ∷ kinds.flag_byte r.reset ∷ kinds.flag_byte r.stale ∷ opt_place r.opt ∷ []

abbrev pub row_bytes : Row → List ℕ
row_bytes r = parts.subject_bytes r.subject ++ standing_bytes r ++ kinds.maybe_bytes kinds.text_bytes r.level

-- a value of a closed list, by its place
abbrev pub value_of : {T : Type 0} → List T → List ℕ → Result (T × List ℕ) (List ℕ)
value_of values = ruled (slice_get values) kinds.byte

abbrev pub row : List ℕ → Result (Row × List ℕ) (List ℕ)
row = do
  subject ← parts.subject
  session ← value_of sessions
  account ← value_of accounts
  device ← value_of devices
  reset ← kinds.flag
  stale ← kinds.flag
  opt ← value_of opts
  level ← kinds.maybe kinds.text
  given (record {
    subject = subject;
    session = session;
    account = account;
    device = device;
    reset = reset;
    stale = stale;
    opt = opt;
    level = level;
  })

-- whether a row is of the same subject
abbrev pub has_subject : Row → List Row → Bool
has_subject r rows = has_row r.subject rows
