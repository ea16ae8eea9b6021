-- Streams, how many each client made, what was published, and tokens.
use Rattle.std.specs.Prelude.{ℕ, List, [], ◌∷◌, ◌++◌, ◌+◌, ◌==◌, Bool, true, false, not, ◌&&◌, ◌||◌, Option, None, Some, codes, decimal, bytes_eq, length, filter, nat_lt, if◌then◌else◌}
use Rattle.std.specs.List.{list_any}
use Rattle.std.specs.Cmp.Lexicographic.{slice_cmp}
use Rattle.std.specs.Ordering.{is_lt, nat_cmp}
use Rattle.uuid.specs.Text.{hyphenated_text, lower}
use Rattle.sig_event.specs.Events.{uri_of}
use Rattle.sig_subject.specs.Matching.{is_identical}
use Rattle.sig_subject.specs.declared.subject.Subject.{Subject}
use Rattle.sig_event.specs.declared.claims.Claims.{Claims}
use Rattle.sig_event.specs.declared.event.Event.{Event}
use Rattle.sig_event.specs.declared.event.Event.TheVariants as event
use Rattle.sig_event.specs.declared.news.News.{News}
use Rattle.sig_event.specs.declared.status.Status.{Status}
use Rattle.sig_event.specs.declared.status.Status.TheVariants as status
use Rattle.sig_terms.specs.Fitting.{delivers, fits}
use Rattle.sig_terms.specs.declared.configuration.StreamConf.{StreamConf}
use Rattle.sig_terms.specs.declared.endpoint.Endpoint.{Endpoint}
use Rattle.sig_terms.specs.declared.want.Delivery.{Delivery}
use Rattle.sig_terms.specs.declared.want.Delivery.TheVariants as delivery
use Rattle.sig_terms.specs.declared.token.Issued.{Issued}
use Rattle.sig_terms.specs.declared.token.Token.{Token}

-- a stream: whose it is, its number among that client's, its configuration, its status and why it was set, the subjects on
-- its list, when a verification was last asked for, and how many tokens were made for it
pub record Stream : Type 0 where
  pub client : List ℕ
  pub number : ℕ
  pub conf : StreamConf
  pub status : Status
  pub reason : Option (List ℕ)
  pub listed : List Subject
  pub asked : Option ℕ
  pub made : ℕ

-- how many streams a client ever made
pub record Count : Type 0 where
  pub client : List ℕ
  pub count : ℕ

-- a publication, with the tokens that it made
pub record Publication : Type 0 where
  pub id : List ℕ
  pub news : News
  pub issued : List Issued

-- a token that a fact makes
pub record Made : Type 0 where
  pub stream : List ℕ
  pub number : ℕ
  pub claims : Claims

-- what a history comes to, but for what is owed: its store, the streams in order of client name and number, how many
-- each client ever made, and all that was published, in order
pub record Parts : Type 0 where
  pub store_id : List ℕ
  pub streams : List Stream
  pub created : List Count
  pub published : List Publication

-- the code of `-`
abbrev pub hyphen : ℕ
hyphen = 45

-- a stream's name: its client's name, a hyphen and its number
abbrev pub stream_name : List ℕ → ℕ → List ℕ
stream_name client number = client ++ hyphen ∷ decimal number

-- the client whose stream has this name: what stands before the first hyphen
abbrev pub client_in : List ℕ → List ℕ
client_in [] = []
client_in (b ∷ bs) = if b == hyphen then [] else b ∷ client_in bs

-- how many streams a client ever made
abbrev pub created_by : List ℕ → List Count → ℕ
created_by client [] = 0
created_by client (c ∷ cs) = if bytes_eq c.client client then c.count else created_by client cs

-- one more of this client
abbrev pub count_one : List ℕ → List Count → List Count
count_one client [] = record { client = client; count = 1 } ∷ []
count_one client (c ∷ cs) =
    if bytes_eq c.client client then record { client = client; count = c.count + 1 } ∷ cs
    else c ∷ count_one client cs

-- whether a text stands before another in the order of bytes
abbrev pub comes_before : List ℕ → List ℕ → Bool
comes_before a b = is_lt (slice_cmp nat_cmp a b)

-- whether a stream stands before another: by its client's name, and then by its number
abbrev pub is_before : Stream → Stream → Bool
is_before a b = comes_before a.client b.client || (bytes_eq a.client b.client && nat_lt a.number b.number)

-- the streams with this one in its place
abbrev pub put_in_order : Stream → List Stream → List Stream
put_in_order s [] = s ∷ []
put_in_order s (t ∷ ts) = if is_before t s then t ∷ put_in_order s ts else s ∷ t ∷ ts

-- whether a stream has this name
abbrev pub is_named : List ℕ → Stream → Bool
is_named name s = bytes_eq s.conf.stream name

-- whether the stream stands
abbrev pub stands : List ℕ → List Stream → Bool
stands name streams = list_any (is_named name) streams

-- how many streams of a client stand
abbrev pub streams_of : List ℕ → List Stream → ℕ
streams_of client streams = length (filter (λ (s : Stream). bytes_eq s.client client) streams)

-- a stream with another part
abbrev pub with_conf : StreamConf → Stream → Stream
with_conf conf s = record {
  client = s.client;
  number = s.number;
  conf = conf;
  status = s.status;
  reason = s.reason;
  listed = s.listed;
  asked = s.asked;
  made = s.made;
}

abbrev pub with_status : Status → Option (List ℕ) → Stream → Stream
with_status status reason s = record {
  client = s.client;
  number = s.number;
  conf = s.conf;
  status = status;
  reason = reason;
  listed = s.listed;
  asked = s.asked;
  made = s.made;
}

abbrev pub with_listed : List Subject → Stream → Stream
with_listed listed s = record {
  client = s.client;
  number = s.number;
  conf = s.conf;
  status = s.status;
  reason = s.reason;
  listed = listed;
  asked = s.asked;
  made = s.made;
}

abbrev pub with_asked : ℕ → Stream → Stream
with_asked time s = record {
  client = s.client;
  number = s.number;
  conf = s.conf;
  status = s.status;
  reason = s.reason;
  listed = s.listed;
  asked = Some time;
  made = s.made;
}

abbrev pub with_made : ℕ → Stream → Stream
with_made made s = record {
  client = s.client;
  number = s.number;
  conf = s.conf;
  status = s.status;
  reason = s.reason;
  listed = s.listed;
  asked = s.asked;
  made = made;
}

-- a list of subjects with one more at its end, unless an identical one is there, and without the identical one
abbrev pub list_added : Subject → List Subject → List Subject
list_added subject listed = if list_any (is_identical subject) listed then listed else listed ++ subject ∷ []

abbrev pub list_removed : Subject → List Subject → List Subject
list_removed subject listed = filter (λ l. not (is_identical subject l)) listed

abbrev pub is_enabled : Status → Bool
is_enabled status.Enabled = true
is_enabled status.Paused = false
is_enabled status.Disabled = false

abbrev pub is_disabled : Status → Bool
is_disabled status.Enabled = false
is_disabled status.Paused = false
is_disabled status.Disabled = true

-- whether news are due on a stream: it isn't disabled, it delivers the event, and the subject is one of its subjects (Shared
-- Signals Framework 1.0, sections 7, 8.1.1 and 8.1.2)
abbrev pub is_due : News → Stream → Bool
is_due n s = not (is_disabled s.status) && delivers s.conf (uri_of n.event) && fits s.conf.defaults s.listed n.subject

-- the streams on which they are due, in order of client name and number
abbrev pub due : Parts → News → List Stream
due parts n = filter (is_due n) parts.streams

-- a token's identifier: the store, the stream and its number, with dots between
abbrev pub jti_of : List ℕ → List ℕ → ℕ → List ℕ
jti_of store_id stream number = hyphenated_text lower store_id ++ codes "." ++ stream ++ codes "." ++ decimal number

-- what a token says: its stream's issuer and audience, its identifier, when it was made, whom it is about, and what
-- happened
abbrev pub claims_for : List ℕ → StreamConf → ℕ → ℕ → News → Claims
claims_for store_id conf number time n = record {
  iss = conf.iss;
  jti = jti_of store_id conf.stream number;
  iat = time;
  aud = conf.aud;
  subject = n.subject;
  events = n.event ∷ [];
}

-- the next token of a stream, which tells news and is made at a time
abbrev pub next_token : List ℕ → News → ℕ → Stream → Made
next_token store_id n time s = record {
  stream = s.conf.stream;
  number = s.made + 1;
  claims = claims_for store_id s.conf (s.made + 1) time n;
}

abbrev pub issued_of : Made → Issued
issued_of t = record { stream = t.stream; number = t.number }

-- where a stream's tokens are sent, and with which `authorization` field; nowhere where the receiver asks for them
abbrev pub endpoint_in : Delivery → Option Endpoint
endpoint_in delivery.Poll = None
endpoint_in (delivery.Push endpoint url authorization) = Some endpoint

abbrev pub authorization_in : Delivery → Option (List ℕ)
authorization_in delivery.Poll = None
authorization_in (delivery.Push endpoint url authorization) = authorization

-- a token as it is handed out
abbrev pub token_of : Delivery → Made → Token
token_of d t = record {
  stream = t.stream;
  number = t.number;
  claims = t.claims;
  endpoint = endpoint_in d;
  authorization = authorization_in d;
}

-- the token that is handed out
abbrev pub made_in : Token → Made
made_in m = record { stream = m.stream; number = m.number; claims = m.claims }

-- whether a token tells that its stream's status changed (Shared Signals Framework 1.0, section 8.1.5)
abbrev pub is_update : Event → Bool
is_update (event.Caep e) = false
is_update (event.Risc e) = false
is_update (event.Verification state) = false
is_update (event.StreamUpdated status reason) = true
is_update (event.Other uri) = false

abbrev pub is_notice : Made → Bool
is_notice t = list_any is_update t.claims.events

-- the first publication of an id
abbrev pub publication_of : List ℕ → List Publication → Option Publication
publication_of id [] = None
publication_of id (p ∷ ps) = if bytes_eq p.id id then Some p else publication_of id ps
