-- How the status of a stream is read and set, by its client and by the operator (Shared Signals Framework 1.0, sections 8.1.2
-- and 8.1.5).
use Rattle.std.specs.Prelude.{◌+◌, ℕ, List, true, false, Option, None, Some, if◌then◌else◌}
use Rattle.sig_event.specs.declared.status.Status.{Status}
use Rattle.sig_terms.specs.declared.answer.Answer.{Answer}
use Rattle.sig_terms.specs.declared.answer.Answer.TheVariants as answer
use Rattle.sig_terms.specs.declared.fact.Fact.TheVariants as fact
use Rattle.sig_history.specs.Streams.{Parts, Stream}
use Rattle.sig_history.specs.Owed.{stream_named}
use Rattle.sig_calls.specs.Equality.{status_eq}
use Rattle.sig_calls.specs.Found.{client_stream, told_by}
use Rattle.sig_calls.specs.Told.{Told, making, only, with_change}

-- the status as it stands, with the reason of the fact that set it
abbrev pub state_of : List ℕ → Stream → Answer
state_of stream s = answer.State stream s.status s.reason None

-- what a client that reads a status is told
abbrev pub reading_status : Parts → List ℕ → List ℕ → Told
reading_status parts client stream = told_by (λ (s : Stream). only (state_of stream s)) (client_stream client stream parts.streams)

-- what a client's new status is told: one that stands already changes nothing, its reason neither
abbrev pub status_set : List ℕ → Status → Option (List ℕ) → ℕ → Stream → Told
status_set stream status reason now s =
    if status_eq s.status status then only (state_of stream s)
    else with_change (answer.State stream status reason None) (Some (fact.StatusSet stream status reason false now))

-- what a client that sets a status is told
abbrev pub setting_status : Parts → List ℕ → List ℕ → Status → Option (List ℕ) → ℕ → Told
setting_status parts client stream status reason now =
    told_by (status_set stream status reason now) (client_stream client stream parts.streams)

-- what the operator's new status is told: the stream's receiver gets a token about it
abbrev pub operated : Parts → List ℕ → Status → Option (List ℕ) → ℕ → Stream → Told
operated parts stream status reason now s =
    if status_eq s.status status then only (state_of stream s)
    else making parts (answer.State stream status reason (Some (s.made + 1))) (fact.StatusSet stream status reason true now)

-- what the operator that sets a status is told
abbrev pub operating : Parts → List ℕ → Status → Option (List ℕ) → ℕ → Told
operating parts stream status reason now = told_by (operated parts stream status reason now) (stream_named stream parts.streams)
