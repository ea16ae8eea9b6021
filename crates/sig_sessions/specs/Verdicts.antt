-- What the session table says of a subject (defined here).
use Rattle.std.specs.Prelude.{◌&&◌, List, Bool, true, false, not, Option, Some, None, is_some, filter, find, if◌then◌else◌}
use Rattle.std.specs.List.{list_any}
use Rattle.sig_subject.specs.declared.subject.Subject.{Subject}
use Rattle.sig_subject.specs.Matching.{is_covering, is_identical}
use Rattle.sig_sessions.specs.declared.row.Row.{Row}
use Rattle.sig_sessions.specs.declared.verdict.Verdict.{Verdict}
use Rattle.sig_sessions.specs.declared.standing.Session.{Session}
use Rattle.sig_sessions.specs.declared.standing.Session.TheVariants as session
use Rattle.sig_sessions.specs.declared.standing.Account.{Account}
use Rattle.sig_sessions.specs.declared.standing.Account.TheVariants as account
use Rattle.sig_sessions.specs.declared.standing.Device.{Device}
use Rattle.sig_sessions.specs.declared.standing.Device.TheVariants as device

-- ---- tests of what a row knows

abbrev pub is_live : Session → Bool
is_live session.Unseen = false
is_live session.Live = true
is_live session.Revoked = false

abbrev pub is_revoked : Session → Bool
is_revoked session.Unseen = false
is_revoked session.Live = false
is_revoked session.Revoked = true

abbrev pub is_enabled : Account → Bool
is_enabled account.Unseen = false
is_enabled account.Enabled = true
is_enabled account.Disabled = false
is_enabled account.Purged = false

abbrev pub is_disabled : Account → Bool
is_disabled account.Unseen = false
is_disabled account.Enabled = false
is_disabled account.Disabled = true
is_disabled account.Purged = false

abbrev pub is_purged : Account → Bool
is_purged account.Unseen = false
is_purged account.Enabled = false
is_purged account.Disabled = false
is_purged account.Purged = true

abbrev pub is_compliant : Device → Bool
is_compliant device.Unseen = false
is_compliant device.Compliant = true
is_compliant device.NotCompliant = false

abbrev pub is_not_compliant : Device → Bool
is_not_compliant device.Unseen = false
is_not_compliant device.Compliant = false
is_not_compliant device.NotCompliant = true

-- ---- what rows say together

-- the rows whose subject covers this one
abbrev pub covering : Subject → List Row → List Row
covering subject rows = filter (λ (r : Row). is_covering r.subject subject) rows

-- the row that is identical to the subject
abbrev pub row_of : Subject → List Row → Option Row
row_of subject rows = find (λ (r : Row). is_identical r.subject subject) rows

-- revoked where one of the rows is, else live where one is
abbrev pub session_among : List Row → Session
session_among rows =
    if list_any (λ (r : Row). is_revoked r.session) rows then session.Revoked
    else if list_any (λ (r : Row). is_live r.session) rows then session.Live
    else session.Unseen

-- that of the subject's own row, else that among the rows
abbrev pub session_by : Option Row → List Row → Session
session_by (Some r) rows = r.session
session_by None rows = session_among rows

-- the greatest of the rows, in the order unseen, enabled, disabled, purged
abbrev pub account_among : List Row → Account
account_among rows =
    if list_any (λ (r : Row). is_purged r.account) rows then account.Purged
    else if list_any (λ (r : Row). is_disabled r.account) rows then account.Disabled
    else if list_any (λ (r : Row). is_enabled r.account) rows then account.Enabled
    else account.Unseen

-- not compliant where one of the rows isn't, else compliant where one is
abbrev pub device_among : List Row → Device
device_among rows =
    if list_any (λ (r : Row). is_not_compliant r.device) rows then device.NotCompliant
    else if list_any (λ (r : Row). is_compliant r.device) rows then device.Compliant
    else device.Unseen

abbrev pub reset_among : List Row → Bool
reset_among rows = list_any (λ (r : Row). r.reset) rows

-- the session isn't revoked, the account is neither disabled nor purged, the device isn't non-compliant, and no
-- credential has to be reset
abbrev pub is_allowed : Session → Account → Device → Bool → Bool
is_allowed s a d reset = not (is_revoked s) && not (is_disabled a) && not (is_purged a) && not (is_not_compliant d) && not reset

-- the verdict of the subject's own row and of the rows that cover it
abbrev pub verdict_by : Option Row → List Row → Verdict
verdict_by own rows = record {
  known = is_some own;
  session = session_by own rows;
  account = account_among rows;
  device = device_among rows;
  reset = reset_among rows;
  allow = is_allowed (session_by own rows) (account_among rows) (device_among rows) (reset_among rows);
}

abbrev pub verdict_of : List Row → Subject → Verdict
verdict_of rows subject = verdict_by (row_of subject rows) (covering subject rows)
