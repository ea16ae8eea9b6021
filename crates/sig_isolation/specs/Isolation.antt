-- What other clients do changes nothing: in a client's part of a history, and in what the client is told.
use Rattle.std.specs.Prelude.{◌≡◌, ℕ, List, Bool, true, false, bytes_eq, map, filter}
use Rattle.sig_terms.specs.declared.call.Call.{Call}
use Rattle.sig_terms.specs.declared.call.Call.TheVariants.{Metadata, Create, ReadAll, Read, Patch, Put, Delete, GetStatus, SetStatus, Add, Remove, Verify, Poll, Publish, OperatorStatus, OperatorDelete, Streams, Refused, Figures, Deliver, Hand, Settle}
use Rattle.sig_terms.specs.declared.fact.Fact.{Fact}
use Rattle.sig_terms.specs.declared.fact.Fact.TheVariants.{Created, Configured, StatusSet, Listed, Unlisted, Deleted, Published, Settled, Asked}
use Rattle.sig_terms.specs.declared.rules.Rules.{Rules}
use Rattle.sig_history.specs.Streams.{Stream, Made, client_in, created_by}
use Rattle.sig_history.specs.Owed.{Sum, empty_sum, owed_by, sum_of}
use Rattle.sig_calls.specs.Table.{told_of}

-- a fact that a client's part of a history may rest on: it is of one of its streams, or is a publication
abbrev pub concerns : List ℕ → Fact → Bool
concerns client (Created conf time) = bytes_eq (client_in conf.stream) client
concerns client (Configured stream requested delivery description) = bytes_eq (client_in stream) client
concerns client (StatusSet stream status reason operator time) = bytes_eq (client_in stream) client
concerns client (Listed stream subject) = bytes_eq (client_in stream) client
concerns client (Unlisted stream subject) = bytes_eq (client_in stream) client
concerns client (Deleted stream) = bytes_eq (client_in stream) client
concerns client (Published id news time) = true
concerns client (Settled stream items) = bytes_eq (client_in stream) client
concerns client (Asked stream state time) = bytes_eq (client_in stream) client

-- a client's part of what a history comes to: its streams, what each owes, and how many it ever made
pub record Part : Type 0 where
  pub store_id : List ℕ
  pub streams : List Stream
  pub owed : List (List Made)
  pub created : ℕ

-- a stream is a client's by its name
abbrev pub is_of_client : List ℕ → Stream → Bool
is_of_client client s = bytes_eq (client_in s.conf.stream) client

abbrev pub part_of : List ℕ → Sum → Part
part_of client sum = record {
  store_id = sum.parts.store_id;
  streams = filter (is_of_client client) sum.parts.streams;
  owed = map (λ (s : Stream). owed_by sum s.conf.stream) (filter (is_of_client client) sum.parts.streams);
  created = created_by client sum.parts.created;
}

-- what other clients did changes nothing in a client's part
abbrev pub PartsAreIsolated : Type 0
PartsAreIsolated = (store_id client : List ℕ) (facts : List Fact)
    → part_of client (sum_of (empty_sum store_id) facts) ≡ part_of client (sum_of (empty_sum store_id) (filter (concerns client) facts))

-- ---- answers

-- a call that a client makes for itself
abbrev pub is_call_of : List ℕ → Call → Bool
is_call_of client Metadata = false
is_call_of client (Create c want) = bytes_eq c client
is_call_of client (ReadAll c) = bytes_eq c client
is_call_of client (Read c stream) = bytes_eq c client
is_call_of client (Patch c stream want) = bytes_eq c client
is_call_of client (Put c stream want) = bytes_eq c client
is_call_of client (Delete c stream) = bytes_eq c client
is_call_of client (GetStatus c stream) = bytes_eq c client
is_call_of client (SetStatus c stream status reason) = bytes_eq c client
is_call_of client (Add c stream subject) = bytes_eq c client
is_call_of client (Remove c stream subject) = bytes_eq c client
is_call_of client (Verify c stream state) = bytes_eq c client
is_call_of client (Poll c stream ask) = bytes_eq c client
is_call_of client (Publish id news) = false
is_call_of client (OperatorStatus stream status reason) = false
is_call_of client (OperatorDelete stream) = false
is_call_of client (Streams from) = false
is_call_of client (Refused from) = false
is_call_of client Figures = false
is_call_of client (Deliver stream) = false
is_call_of client (Hand streams) = false
is_call_of client (Settle stream number outcome) = false

-- nothing that other clients did changes what a client is told, or the fact that its call makes
abbrev pub AnswersAreIsolated : Type 0
AnswersAreIsolated = (rules : Rules) (store_id client : List ℕ) (facts : List Fact) (call : Call) (now : ℕ) → is_call_of client call ≡ true
    → told_of rules (sum_of (empty_sum store_id) facts) call now
    ≡ told_of rules (sum_of (empty_sum store_id) (filter (concerns client) facts)) call now
