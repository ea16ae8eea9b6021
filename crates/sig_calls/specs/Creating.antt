-- How a client makes a stream (Shared Signals Framework 1.0, section 8.1.1.1).
use Rattle.std.specs.Prelude.{ℕ, List, [], ◌∷◌, ◌+◌, Option, Some, None, bytes_eq, nat_le, unwrap_or, if◌then◌else◌}
use Rattle.sig_json.specs.declared.limits.TheConstants.{LAST_NUMBER, STREAMS_PER_CLIENT}
use Rattle.sig_terms.specs.declared.want.Want.{Want}
use Rattle.sig_terms.specs.declared.want.Delivery.TheVariants as delivery
use Rattle.sig_terms.specs.declared.configuration.StreamConf.{StreamConf}
use Rattle.sig_terms.specs.declared.rules.Client.{Client}
use Rattle.sig_terms.specs.declared.rules.Rules.{Rules}
use Rattle.sig_terms.specs.declared.answer.Answer.TheVariants as answer
use Rattle.sig_terms.specs.declared.fact.Fact.TheVariants as fact
use Rattle.sig_history.specs.Streams.{Parts, stream_name, created_by, streams_of}
use Rattle.sig_calls.specs.Told.{Told, only}

-- the client of a name, where one is configured
abbrev pub client_of : List ℕ → List Client → Option Client
client_of name [] = None
client_of name (c ∷ cs) = if bytes_eq c.name name then Some c else client_of name cs

-- the configuration of a client's stream (Shared Signals Framework 1.0, section 8.1.1)
abbrev pub conf_of : Rules → Client → Want → ℕ → StreamConf
conf_of rules client want number = record {
  stream = stream_name client.name number;
  iss = rules.issuer;
  aud = client.aud;
  requested = want.requested;
  delivery = unwrap_or want.delivery delivery.Poll;
  interval = rules.interval;
  defaults = rules.defaults;
  description = want.description;
}

-- that of its next one
abbrev pub next_conf : Rules → Parts → Client → Want → StreamConf
next_conf rules parts client want = conf_of rules client want (created_by client.name parts.created + 1)

-- the client's next stream
abbrev pub next_stream : Rules → Parts → Client → Want → ℕ → Told
next_stream rules parts client want now = record {
  answer = answer.Made (next_conf rules parts client want);
  change = Some (fact.Created (next_conf rules parts client want) now);
  over = nat_le LAST_NUMBER (created_by client.name parts.created);
}

abbrev pub created_for : Rules → Parts → Want → ℕ → Option Client → Told
created_for rules parts want now None = only answer.NotFound
created_for rules parts want now (Some client) =
    if nat_le STREAMS_PER_CLIENT (streams_of client.name parts.streams) then only answer.TooMany
    else next_stream rules parts client want now

-- what a client that makes a stream is told
abbrev pub creating : Rules → Parts → List ℕ → Want → ℕ → Told
creating rules parts client want now = created_for rules parts want now (client_of client rules.clients)
