-- The stream that a call names: what is told where it isn't there is the same for each call.
use Rattle.std.specs.Prelude.{ℕ, List, [], ◌∷◌, ◌&&◌, Option, None, Some, bytes_eq, if◌then◌else◌}
use Rattle.sig_terms.specs.declared.answer.Answer.TheVariants as answer
use Rattle.sig_history.specs.Streams.{Stream, is_named}
use Rattle.sig_calls.specs.Told.{Told, only}

-- the client's stream of a name
abbrev pub client_stream : List ℕ → List ℕ → List Stream → Option Stream
client_stream client name [] = None
client_stream client name (s ∷ ss) =
    if bytes_eq s.client client && is_named name s then Some s else client_stream client name ss

-- what is told of a stream, where it is there
abbrev pub told_by : (Stream → Told) → Option Stream → Told
told_by tell None = only answer.NotFound
told_by tell (Some s) = tell s
