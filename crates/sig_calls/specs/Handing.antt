-- How tokens are handed to a round of pushes (RFC 8935, section 2).
use Rattle.std.specs.Prelude.{ℕ, List, [], ◌∷◌, bytes_eq, flat_map, map, take, if◌then◌else◌}
use Rattle.std.specs.List.{list_any}
use Rattle.std.specs.Option.{option_map_or}
use Rattle.sig_json.specs.declared.limits.TheConstants.{TOKENS_PER_PAGE}
use Rattle.sig_terms.specs.Deliveries.{is_push}
use Rattle.sig_terms.specs.declared.answer.Answer.TheVariants as answer
use Rattle.sig_terms.specs.declared.token.Token.{Token}
use Rattle.sig_history.specs.Streams.{Parts, Stream, token_of}
use Rattle.sig_history.specs.Owed.{Sum, offered_by, stream_named}
use Rattle.sig_calls.specs.Found.{told_by}
use Rattle.sig_calls.specs.Told.{Told, only}

-- what the operator that asks for a round of a stream is told
abbrev pub delivering : Parts → List ℕ → Told
delivering parts stream =
    told_by (λ (s : Stream). if is_push s.conf.delivery then only (answer.Delivering stream) else only answer.NotFound) (stream_named stream parts.streams)

-- each name where it comes first, but for earlier ones
abbrev pub first_names : List (List ℕ) → List (List ℕ) → List (List ℕ)
first_names earlier [] = []
first_names earlier (n ∷ ns) = if list_any (bytes_eq n) earlier then first_names earlier ns else n ∷ first_names (n ∷ earlier) ns

-- the tokens that the stream of a name offers to pushes
abbrev pub pushed_by : Sum → List ℕ → List Token
pushed_by sum name =
    option_map_or (λ (s : Stream). if is_push s.conf.delivery then map (token_of s.conf.delivery) (offered_by sum name) else []) (stream_named name sum.parts.streams) []

-- what a round of pushes is handed: the first tokens of the streams, in the order in which they are named
abbrev pub handing : Sum → List (List ℕ) → Told
handing sum names = only (answer.Handed (take TOKENS_PER_PAGE (flat_map (pushed_by sum) (first_names [] names))))
