-- Replies to calls, and the tokens that stand after them.
use Rattle.std.specs.Prelude.{◌≡◌, ℕ, List, [], ◌∷◌, Option, Some, Ok, Contains}
use Rattle.std.specs.Option.{option_to_list}
use Rattle.sig_event.specs.declared.event.Event.{Event}
use Rattle.sig_terms.specs.declared.answer.Answer.{Answer}
use Rattle.sig_terms.specs.declared.call.Call.{Call}
use Rattle.sig_terms.specs.declared.call.Call.TheVariants.{Metadata, Create, ReadAll, Read, Patch, Put, Delete, GetStatus, SetStatus, Add, Remove, Verify, Poll, Publish, OperatorStatus, OperatorDelete, Streams, Refused, Figures, Deliver, Hand, Settle}
use Rattle.sig_terms.specs.declared.fact.Fact.{Fact}
use Rattle.sig_terms.specs.declared.rules.Rules.{Rules}
use Rattle.sig_history.specs.Streams.{Made, Stream}
use Rattle.sig_history.specs.Owed.{Sum, owed_by, stream_named, sum_of}
use Rattle.sig_calls.specs.Table.{prepared_of}

-- a call isn't refused for its numbers: it has this answer, and this fact, if any
abbrev pub Replies : Rules → Sum → Call → ℕ → Answer → Option Fact → Type 0
Replies rules sum call now given change = prepared_of rules sum call now ≡ Ok (record { answer = given; change = change })

-- what a history comes to with the fact of a call, if any
abbrev pub after : Sum → Option Fact → Sum
after sum change = sum_of sum (option_to_list change)

-- a stream owes a token of this number, which tells this event
pub record OwesToken (sum : Sum) (stream : List ℕ) (number : ℕ) (event : Event) : Type 0 where
  pub token : Made
  pub owed : Contains (owed_by sum stream) token
  pub numbered : token.number ≡ number
  pub tells : token.claims.events ≡ event ∷ []

-- the stream of a name, and of the client that calls
pub record IsOwn (sum : Sum) (client stream : List ℕ) (s : Stream) : Type 0 where
  pub named : stream_named stream sum.parts.streams ≡ Some s
  pub whose : s.client ≡ client

-- a call of a client on a stream of its own
abbrev pub IsOn : Call → List ℕ → List ℕ → Type 0
IsOn Metadata client stream = ⊥
IsOn (Create c want) client stream = ⊥
IsOn (ReadAll c) client stream = ⊥
IsOn (Read c s) client stream = (c ≡ client) × (s ≡ stream)
IsOn (Patch c s want) client stream = (c ≡ client) × (s ≡ stream)
IsOn (Put c s want) client stream = (c ≡ client) × (s ≡ stream)
IsOn (Delete c s) client stream = (c ≡ client) × (s ≡ stream)
IsOn (GetStatus c s) client stream = (c ≡ client) × (s ≡ stream)
IsOn (SetStatus c s status reason) client stream = (c ≡ client) × (s ≡ stream)
IsOn (Add c s subject) client stream = (c ≡ client) × (s ≡ stream)
IsOn (Remove c s subject) client stream = (c ≡ client) × (s ≡ stream)
IsOn (Verify c s state) client stream = (c ≡ client) × (s ≡ stream)
IsOn (Poll c s ask) client stream = (c ≡ client) × (s ≡ stream)
IsOn (Publish id news) client stream = ⊥
IsOn (OperatorStatus s status reason) client stream = ⊥
IsOn (OperatorDelete s) client stream = ⊥
IsOn (Streams from) client stream = ⊥
IsOn (Refused from) client stream = ⊥
IsOn Figures client stream = ⊥
IsOn (Deliver s) client stream = ⊥
IsOn (Hand streams) client stream = ⊥
IsOn (Settle s number outcome) client stream = ⊥
