-- How long a link over TCP waits for its peer, in milliseconds since it was made.
use Rattle.std.specs.Prelude.{ℕ, ◌+◌, ◌-◌, ◌^◌, true, false, min, nat_lt, Option, Some, None, if◌then◌else◌}
use Rattle.sig_system.specs.declared.deadline.Deadline.{Deadline}
use Rattle.sig_system.specs.declared.deadline.TheConstants.{EXCHANGE_MILLISECONDS, HURRY_MILLISECONDS, IDLE_MILLISECONDS, READ_MILLISECONDS, REQUEST_MILLISECONDS, ROUND_MILLISECONDS, WRITE_MILLISECONDS}

-- under a limit and until a moment: the lesser of the limit and what is left, and no time once that moment has come
abbrev pub waits : ℕ → ℕ → ℕ → Option ℕ
waits limit until now = if nat_lt now until then Some (min limit (until - now)) else None

-- a link that is dialled may take as long as one may, and no longer than its round has left that has lasted so long
abbrev pub exchange_after : Option ℕ → Option ℕ
exchange_after None = Some EXCHANGE_MILLISECONDS
exchange_after (Some lasted) = waits EXCHANGE_MILLISECONDS ROUND_MILLISECONDS lasted

-- a link that was just made, and ends after so many seconds
abbrev pub after : ℕ → Deadline
after milliseconds = record { end = milliseconds; due = IDLE_MILLISECONDS; begun = false }

-- so much later than now; a clock stands at its type's end
abbrev pub from_now : ℕ → ℕ → ℕ
from_now limit now = min (now + limit) (2 ^ 64 - 1)

-- bytes came: the first of a request decide when it is due, and later ones change nothing
abbrev pub came : ℕ → Deadline → Deadline
came now d = if d.begun then d else record d { due = from_now REQUEST_MILLISECONDS now; begun = true }

-- a response was written: the next request is due
abbrev pub answered : ℕ → Deadline → Deadline
answered now d = record d { due = from_now IDLE_MILLISECONDS now; begun = false }

-- so much later than it began, or an earlier moment
abbrev pub until : ℕ → ℕ → ℕ → ℕ
until limit began moment = min (from_now limit began) moment

-- a read or a write that began then may wait for as long as one may, and no longer than the link has
abbrev pub reads_until : ℕ → Deadline → ℕ
reads_until began d = until READ_MILLISECONDS began (min d.end d.due)

abbrev pub writes_until : ℕ → Deadline → ℕ
writes_until began d = until WRITE_MILLISECONDS began d.end

-- the link was asked to end soon: it keeps an earlier end
abbrev pub hurried : ℕ → Deadline → Deadline
hurried now d = record d { end = until HURRY_MILLISECONDS now d.end }
