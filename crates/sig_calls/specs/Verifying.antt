-- How a client asks for a verification (Shared Signals Framework 1.0, section 8.1.4.2).
use Rattle.std.specs.Prelude.{◌+◌, ◌^◌, ◌-◌, ℕ, List, Option, None, Some, min, nat_lt, if◌then◌else◌}
use Rattle.sig_terms.specs.declared.answer.Answer.TheVariants as answer
use Rattle.sig_terms.specs.declared.fact.Fact.TheVariants as fact
use Rattle.sig_history.specs.Streams.{Parts, Stream, is_disabled}
use Rattle.sig_calls.specs.Found.{client_stream, told_by}
use Rattle.sig_calls.specs.Told.{Told, making, only}

-- when the next verification may be asked for; a time that 64 bits can't hold is the greatest that they can
abbrev pub next_time : ℕ → ℕ → ℕ
next_time asked interval = min (asked + interval) (2 ^ 64 - 1)

-- what a verification of a stream that was last verified at a time, if ever, is told
abbrev pub asked_after : Parts → List ℕ → Option (List ℕ) → ℕ → Stream → Option ℕ → Told
asked_after parts stream state now s None = making parts (answer.Asked stream (s.made + 1)) (fact.Asked stream state now)
asked_after parts stream state now s (Some asked) =
    if nat_lt now (next_time asked s.conf.interval) then only (answer.Early (next_time asked s.conf.interval))
    else making parts (answer.Asked stream (s.made + 1)) (fact.Asked stream state now)

abbrev pub asked_of : Parts → List ℕ → Option (List ℕ) → ℕ → Stream → Told
asked_of parts stream state now s =
    if is_disabled s.status then only answer.Disabled else asked_after parts stream state now s s.asked

-- what a client that asks for a verification is told
abbrev pub verifying : Parts → List ℕ → List ℕ → Option (List ℕ) → ℕ → Told
verifying parts client stream state now = told_by (asked_of parts stream state now) (client_stream client stream parts.streams)
