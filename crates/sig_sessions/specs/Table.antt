-- The session table: rows in order of first mention, as the effects of claims leave them (defined here).
use Rattle.std.specs.Prelude.{ℕ, List, [], ◌∷◌, ◌++◌, ◌&&◌, Bool, true, false, not, Option, None, fold, map, if◌then◌else◌}
use Rattle.std.specs.List.{list_any}
use Rattle.sig_subject.specs.declared.subject.Subject.{Subject}
use Rattle.sig_subject.specs.Matching.{is_covering, is_identical}
use Rattle.sig_event.specs.declared.claims.Claims.{Claims}
use Rattle.sig_event.specs.declared.event.Event.{Event}
use Rattle.sig_sessions.specs.declared.row.Row.{Row}
use Rattle.sig_sessions.specs.declared.standing.Session.TheVariants as session
use Rattle.sig_sessions.specs.declared.standing.Account.TheVariants as account
use Rattle.sig_sessions.specs.declared.standing.Device.TheVariants as device
use Rattle.sig_sessions.specs.declared.standing.Opt.TheVariants as opt
use Rattle.sig_sessions.specs.declared.state.State.{State}
use Rattle.sig_sessions.specs.Effects.{has_effect, level_after, state_after}

-- what is known of a row but its subject and its level
abbrev pub state_of : Row → State
state_of r = record { session = r.session; account = r.account; device = r.device; reset = r.reset; stale = r.stale; opt = r.opt }

-- the row with this state and this level
abbrev pub with_state : State → Option (List ℕ) → Row → Row
with_state s level r = record {
  subject = r.subject;
  session = s.session;
  account = s.account;
  device = s.device;
  reset = s.reset;
  stale = s.stale;
  opt = s.opt;
  level = level;
}

-- a row of which nothing is known
abbrev pub unseen : Subject → Row
unseen subject = record {
  subject = subject;
  session = session.Unseen;
  account = account.Unseen;
  device = device.Unseen;
  reset = false;
  stale = false;
  opt = opt.Unseen;
  level = None;
}

-- whether a row is identical to the subject
abbrev pub has_row : Subject → List Row → Bool
has_row subject rows = list_any (λ (r : Row). is_identical r.subject subject) rows

-- no two rows are of identical subjects
abbrev pub are_distinct : List Row → Bool
are_distinct [] = true
are_distinct (r ∷ rows) = not (has_row r.subject rows) && are_distinct rows

-- the rows with one of the subject: where there is none, it stands last and nothing is known of it
abbrev pub with_row : Subject → List Row → List Row
with_row subject rows = if has_row subject rows then rows else rows ++ unseen subject ∷ []

-- the rows with this one, which stands last where none is of its subject
abbrev pub with_new_row : Row → List Row → List Row
with_new_row row rows = if has_row row.subject rows then rows else rows ++ row ∷ []

-- a row after an event
abbrev pub changed : Event → Row → Row
changed e r = with_state (state_after e (state_of r)) (level_after e r.level) r

-- a row after an event on a subject that covers it, and the row itself else
abbrev pub changed_where_covered : Subject → Event → Row → Row
changed_where_covered subject e r = if is_covering subject r.subject then changed e r else r

-- the rows after an event on a subject: one that has an effect adds the subject's row where it isn't there yet, and
-- changes each row that the subject covers
abbrev pub after_event : Subject → List Row → Event → List Row
after_event subject rows e = if has_effect e then map (changed_where_covered subject e) (with_row subject rows) else rows

-- after events, one after the other
abbrev pub after_events : Subject → List Event → List Row → List Row
after_events subject events rows = fold (after_event subject) rows events

-- what claims make of the rows
abbrev pub effect : Claims → List Row → List Row
effect claims rows = after_events claims.subject claims.events rows
