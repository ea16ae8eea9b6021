-- What all events of a token make of one row.
use Rattle.std.specs.Prelude.{ℕ, List, [], ◌∷◌, ◌++◌, Option, None, fold, if◌then◌else◌}
use Rattle.sig_json.specs.Checks.{or_else}
use Rattle.sig_subject.specs.declared.subject.Subject.{Subject}
use Rattle.sig_subject.specs.Matching.{is_covering}
use Rattle.sig_event.specs.declared.event.Event.{Event}
use Rattle.sig_sessions.specs.declared.row.Row.{Row}
use Rattle.sig_sessions.specs.declared.state.State.{State}
use Rattle.sig_sessions.specs.declared.update.Update.{Update}
use Rattle.sig_sessions.specs.Effects.{state_after, told}
use Rattle.sig_sessions.specs.Table.{state_of, with_state}

-- the last level that the events tell
abbrev pub last_told : List Event → Option (List ℕ)
last_told [] = None
last_told (e ∷ es) = or_else (last_told es) (told e)

-- the state after the events, one after the other
abbrev pub states_after : List Event → State → State
states_after events s = fold (λ s e. state_after e s) s events

-- a row after the events
abbrev pub changed_by_all : List Event → Row → Row
changed_by_all es r = with_state (states_after es (state_of r)) (or_else (last_told es) r.level) r

-- a row after the events on a subject that covers it, and the row itself else
abbrev pub changed_by_all_where_covered : Subject → List Event → Row → Row
changed_by_all_where_covered subject es r = if is_covering subject r.subject then changed_by_all es r else r

-- what the events make of the row at a place
abbrev pub update_at : ℕ → List Event → Row → Update
update_at place es r = record { place = place; state = states_after es (state_of r); level = last_told es }

-- changes, with that of the row at a place where the subject covers it
abbrev pub with_update : Subject → List Event → ℕ → Row → List Update → List Update
with_update subject es place r us = if is_covering subject r.subject then us ++ update_at place es r ∷ [] else us
