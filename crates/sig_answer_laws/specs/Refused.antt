-- What the answers say that refuse a call, each with its cause; none of them changes anything.
use Rattle.std.specs.Prelude.{◌≡◌, ◌⊎◌, ◌<◌, ◌≤◌, ◌+◌, ◌-◌, ◌^◌, ℕ, List, true, false, Option, Some, None, All, Contains, length, min}
use Rattle.sig_json.specs.declared.limits.TheConstants.{PAYLOAD_BYTES, STREAMS_PER_CLIENT}
use Rattle.sig_event.specs.News.{is_same_news}
use Rattle.sig_event.specs.declared.news.News.{News}
use Rattle.sig_event.specs.declared.status.Status.TheVariants as status
use Rattle.sig_set.specs.Written.{payload_text_of}
use Rattle.sig_terms.specs.Deliveries.{is_push}
use Rattle.sig_terms.specs.declared.call.Call.{Call}
use Rattle.sig_terms.specs.declared.call.Call.TheVariants.{Metadata, Create, ReadAll, Read, Patch, Put, Delete, GetStatus, SetStatus, Add, Remove, Verify, Poll, Publish, OperatorStatus, OperatorDelete, Streams, Refused, Figures, Deliver, Hand, Settle}
use Rattle.sig_terms.specs.declared.fact.Fact.{Fact}
use Rattle.sig_terms.specs.declared.fact.Fact.TheVariants as fact
use Rattle.sig_terms.specs.declared.rules.Client.{Client}
use Rattle.sig_terms.specs.declared.rules.Rules.{Rules}
use Rattle.sig_terms.specs.declared.want.Want.{Want}
use Rattle.sig_history.specs.Facts.{made_by}
use Rattle.sig_history.specs.Owed.{Sum, stream_named}
use Rattle.sig_history.specs.Streams.{Made, Publication, Stream, publication_of, streams_of}
use Rattle.sig_calls.specs.Creating.{client_of}
use Rattle.sig_calls.specs.Found.{client_stream}

-- a client has no stream of a name
abbrev pub HasNone : Sum → List ℕ → List ℕ → Type 0
HasNone sum client stream = client_stream client stream sum.parts.streams ≡ None

-- it has none to poll: none of the name, or one whose tokens are sent
abbrev pub HasNoneToPoll : Sum → List ℕ → List ℕ → Type 0
HasNoneToPoll sum client stream =
    HasNone sum client stream ⊎ ((s : Stream) × (client_stream client stream sum.parts.streams ≡ Some s) × (is_push s.conf.delivery ≡ true))

-- no stream of the name stands whose tokens are sent
abbrev pub StandsNoneToPush : Sum → List ℕ → Type 0
StandsNoneToPush sum stream =
    (stream_named stream sum.parts.streams ≡ None) ⊎ ((s : Stream) × (stream_named stream sum.parts.streams ≡ Some s) × (is_push s.conf.delivery ≡ false))

-- what the call names isn't there
abbrev pub IsMissing : Rules → Sum → Call → Type 0
IsMissing rules sum Metadata = ⊥
IsMissing rules sum (Create client want) = client_of client rules.clients ≡ None
IsMissing rules sum (ReadAll client) = ⊥
IsMissing rules sum (Read client stream) = HasNone sum client stream
IsMissing rules sum (Patch client stream want) = HasNone sum client stream
IsMissing rules sum (Put client stream want) = HasNone sum client stream
IsMissing rules sum (Delete client stream) = HasNone sum client stream
IsMissing rules sum (GetStatus client stream) = HasNone sum client stream
IsMissing rules sum (SetStatus client stream status reason) = HasNone sum client stream
IsMissing rules sum (Add client stream subject) = HasNone sum client stream
IsMissing rules sum (Remove client stream subject) = HasNone sum client stream
IsMissing rules sum (Verify client stream state) = HasNone sum client stream
IsMissing rules sum (Poll client stream ask) = HasNoneToPoll sum client stream
IsMissing rules sum (Publish id news) = ⊥
IsMissing rules sum (OperatorStatus stream status reason) = stream_named stream sum.parts.streams ≡ None
IsMissing rules sum (OperatorDelete stream) = stream_named stream sum.parts.streams ≡ None
IsMissing rules sum (Streams from) = ⊥
IsMissing rules sum (Refused from) = ⊥
IsMissing rules sum Figures = ⊥
IsMissing rules sum (Deliver stream) = StandsNoneToPush sum stream
IsMissing rules sum (Hand streams) = ⊥
IsMissing rules sum (Settle stream number outcome) = ⊥

pub record SaysNotFound (rules : Rules) (sum : Sum) (call : Call) (change : Option Fact) : Type 0 where
  pub same : change ≡ None
  pub missing : IsMissing rules sum call

-- the client has as many streams as it may have
pub record SaysTooMany (rules : Rules) (sum : Sum) (call : Call) (change : Option Fact) : Type 0 where
  pub name : List ℕ
  pub want : Want
  pub client : Client
  pub same : change ≡ None
  pub asked : call ≡ Create name want
  pub known : client_of name rules.clients ≡ Some client
  pub many : STREAMS_PER_CLIENT ≤ streams_of client.name sum.parts.streams

-- other news were published under the name
pub record SaysConflict (sum : Sum) (call : Call) (change : Option Fact) : Type 0 where
  pub id : List ℕ
  pub news : News
  pub publication : Publication
  pub same : change ≡ None
  pub asked : call ≡ Publish id news
  pub found : publication_of id sum.parts.published ≡ Some publication
  pub other : is_same_news publication.news news ≡ false

-- a verification was asked of a stream that is disabled
pub record SaysDisabled (sum : Sum) (call : Call) (change : Option Fact) : Type 0 where
  pub client : List ℕ
  pub stream : List ℕ
  pub state : Option (List ℕ)
  pub own : Stream
  pub same : change ≡ None
  pub asked : call ≡ Verify client stream state
  pub found : client_stream client stream sum.parts.streams ≡ Some own
  pub disabled : own.status ≡ status.Disabled

-- one was asked too soon after the last: it may be from `until` on, which is the stream's interval after that, or the last
-- second that 64 bits can hold
pub record SaysEarly (sum : Sum) (call : Call) (now : ℕ) (change : Option Fact) (until : ℕ) : Type 0 where
  pub client : List ℕ
  pub stream : List ℕ
  pub state : Option (List ℕ)
  pub own : Stream
  pub last : ℕ
  pub same : change ≡ None
  pub asked : call ≡ Verify client stream state
  pub found : client_stream client stream sum.parts.streams ≡ Some own
  pub on : (own.status ≡ status.Disabled) → ⊥
  pub before : own.asked ≡ Some last
  pub next : until ≡ min (last + own.conf.interval) (2 ^ 64 - 1)
  pub early : now < until

-- a verification isn't asked too soon
abbrev pub IsLate : Stream → ℕ → Type 0
IsLate own now = (last : ℕ) → own.asked ≡ Some last → min (last + own.conf.interval) (2 ^ 64 - 1) ≤ now

-- the fact by which a call makes tokens, where nothing else refuses it
abbrev pub IsFactOf : Sum → Call → ℕ → Fact → Type 0
IsFactOf sum Metadata now f = ⊥
IsFactOf sum (Create client want) now f = ⊥
IsFactOf sum (ReadAll client) now f = ⊥
IsFactOf sum (Read client stream) now f = ⊥
IsFactOf sum (Patch client stream want) now f = ⊥
IsFactOf sum (Put client stream want) now f = ⊥
IsFactOf sum (Delete client stream) now f = ⊥
IsFactOf sum (GetStatus client stream) now f = ⊥
IsFactOf sum (SetStatus client stream status reason) now f = ⊥
IsFactOf sum (Add client stream subject) now f = ⊥
IsFactOf sum (Remove client stream subject) now f = ⊥
IsFactOf sum (Verify client stream state) now f =
    (own : Stream) × (client_stream client stream sum.parts.streams ≡ Some own) × ((own.status ≡ status.Disabled) → ⊥) × IsLate own now
    × (f ≡ fact.Asked stream state now)
IsFactOf sum (Poll client stream ask) now f = ⊥
IsFactOf sum (Publish id news) now f = (publication_of id sum.parts.published ≡ None) × (f ≡ fact.Published id news now)
IsFactOf sum (OperatorStatus stream new reason) now f =
    (own : Stream) × (stream_named stream sum.parts.streams ≡ Some own) × ((own.status ≡ new) → ⊥) × (f ≡ fact.StatusSet stream new reason true now)
IsFactOf sum (OperatorDelete stream) now f = ⊥
IsFactOf sum (Streams from) now f = ⊥
IsFactOf sum (Refused from) now f = ⊥
IsFactOf sum Figures now f = ⊥
IsFactOf sum (Deliver stream) now f = ⊥
IsFactOf sum (Hand streams) now f = ⊥
IsFactOf sum (Settle stream number outcome) now f = ⊥

-- the bytes of a token's payload
abbrev pub payload_bytes : Made → ℕ
payload_bytes t = length (payload_text_of t.claims)

-- a token that the call would make has a payload of so many bytes, which are too many, and no other has more
pub record SaysLong (sum : Sum) (call : Call) (now : ℕ) (change : Option Fact) (size : ℕ) : Type 0 where
  pub fact : Fact
  pub token : Made
  pub same : change ≡ None
  pub is : IsFactOf sum call now fact
  pub made : Contains (made_by sum.parts fact) token
  pub bytes : payload_bytes token ≡ size
  pub most : All (λ (t : Made). payload_bytes t ≤ size) (made_by sum.parts fact)
  pub long : PAYLOAD_BYTES < size
