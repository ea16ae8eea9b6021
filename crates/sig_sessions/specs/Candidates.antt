-- What is drawn from the rows at some places, one after the other.
use Rattle.std.specs.Prelude.{◌&&◌, ◌||◌, ℕ, List, [], ◌∷◌, Bool, false, Option, Some, None, slice_get, if◌then◌else◌}
use Rattle.sig_places.specs.declared.entry.Entry.{Entry}
use Rattle.sig_places.specs.Places.{places_of}
use Rattle.sig_subject.specs.declared.subject.Subject.{Subject}
use Rattle.sig_subject.specs.Matching.{is_covering, is_identical}
use Rattle.sig_event.specs.declared.event.Event.{Event}
use Rattle.sig_sessions.specs.declared.row.Row.{Row}
use Rattle.sig_sessions.specs.declared.standing.Session.{Session}
use Rattle.sig_sessions.specs.declared.standing.Session.TheVariants as session
use Rattle.sig_sessions.specs.declared.standing.Account.{Account}
use Rattle.sig_sessions.specs.declared.standing.Account.TheVariants as account
use Rattle.sig_sessions.specs.declared.standing.Device.{Device}
use Rattle.sig_sessions.specs.declared.standing.Device.TheVariants as device
use Rattle.sig_sessions.specs.declared.tally.Tally.{Tally}
use Rattle.sig_sessions.specs.declared.update.Update.{Update}
use Rattle.sig_sessions.specs.declared.verdict.Verdict.{Verdict}
use Rattle.sig_sessions.specs.Verdicts.{is_allowed, is_compliant, is_disabled, is_enabled, is_live, is_not_compliant, is_purged, is_revoked}
use Rattle.sig_sessions.specs.Walks.{with_update}

-- ---- changes

-- changes, with that of the row at a place, where there is one and the subject covers it
abbrev pub with_update_at : Subject → List Event → ℕ → Option Row → List Update → List Update
with_update_at s es place None us = us
with_update_at s es place (Some r) us = with_update s es place r us

abbrev pub updates_at : Subject → List Event → List Row → List ℕ → List Update → List Update
updates_at s es rows [] us = us
updates_at s es rows (p ∷ ps) us = updates_at s es rows ps (with_update_at s es p (slice_get rows p) us)

-- whether one was the subject's own, or the row at a place is
abbrev pub with_own_at : Subject → Option Row → Bool → Bool
with_own_at s None known = known
with_own_at s (Some r) known = known || is_identical r.subject s

abbrev pub known_at : Subject → List Row → List ℕ → Bool → Bool
known_at s rows [] known = known
known_at s rows (p ∷ ps) known = known_at s rows ps (with_own_at s (slice_get rows p) known)

-- the same of the rows under a second key, where there is one
abbrev pub updates_under : Subject → List Event → List Row → List Entry → Option ℕ → List Update → List Update
updates_under s es rows entries None us = us
updates_under s es rows entries (Some k) us = updates_at s es rows (places_of k entries) us

abbrev pub known_under : Subject → List Row → List Entry → Option ℕ → Bool → Bool
known_under s rows entries None known = known
known_under s rows entries (Some k) known = known_at s rows (places_of k entries) known

-- ---- verdicts

abbrev pub no_tally : Tally
no_tally = record {
  known = false;
  own_live = false;
  own_revoked = false;
  live = false;
  revoked = false;
  enabled = false;
  disabled = false;
  purged = false;
  compliant = false;
  not_compliant = false;
  reset = false;
}

-- with what a row says of the subject: as its own, and as one that covers it
abbrev pub noted : Subject → Row → Tally → Tally
noted s r t = record {
  known = t.known || is_identical r.subject s;
  own_live = t.own_live || (is_identical r.subject s && is_live r.session);
  own_revoked = t.own_revoked || (is_identical r.subject s && is_revoked r.session);
  live = t.live || (is_covering r.subject s && is_live r.session);
  revoked = t.revoked || (is_covering r.subject s && is_revoked r.session);
  enabled = t.enabled || (is_covering r.subject s && is_enabled r.account);
  disabled = t.disabled || (is_covering r.subject s && is_disabled r.account);
  purged = t.purged || (is_covering r.subject s && is_purged r.account);
  compliant = t.compliant || (is_covering r.subject s && is_compliant r.device);
  not_compliant = t.not_compliant || (is_covering r.subject s && is_not_compliant r.device);
  reset = t.reset || (is_covering r.subject s && r.reset);
}

abbrev pub noted_at : Subject → Option Row → Tally → Tally
noted_at s None t = t
noted_at s (Some r) t = noted s r t

abbrev pub tally_at : Subject → List Row → List ℕ → Tally → Tally
tally_at s rows [] t = t
tally_at s rows (p ∷ ps) t = tally_at s rows ps (noted_at s (slice_get rows p) t)

-- with what the rows under keys say
abbrev pub tally_under : Subject → List Row → List Entry → List ℕ → Tally → Tally
tally_under s rows es [] t = t
tally_under s rows es (k ∷ ks) t = tally_under s rows es ks (tally_at s rows (places_of k es) t)

abbrev pub session_told : Bool → Bool → Session
session_told revoked live = if revoked then session.Revoked else if live then session.Live else session.Unseen

abbrev pub account_told : Bool → Bool → Bool → Account
account_told purged disabled enabled = if purged then account.Purged else if disabled then account.Disabled else if enabled then account.Enabled else account.Unseen

abbrev pub device_told : Bool → Bool → Device
device_told not_compliant compliant = if not_compliant then device.NotCompliant else if compliant then device.Compliant else device.Unseen

-- the session of the subject's own row, else that of those that cover it
abbrev pub session_of_tally : Tally → Session
session_of_tally t = if t.known then session_told t.own_revoked t.own_live else session_told t.revoked t.live

-- a verdict of these
abbrev pub verdict_with : Bool → Session → Account → Device → Bool → Verdict
verdict_with known s a d reset = record { known = known; session = s; account = a; device = d; reset = reset; allow = is_allowed s a d reset }

abbrev pub verdict_told : Tally → Verdict
verdict_told t =
    verdict_with t.known (session_of_tally t) (account_told t.purged t.disabled t.enabled) (device_told t.not_compliant t.compliant) t.reset
