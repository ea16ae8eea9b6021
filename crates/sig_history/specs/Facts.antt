-- Facts, each by its shape: what it tells each stream, what it changes of it, which stream it brings or takes away, and what it
-- publishes.
use Rattle.std.specs.Prelude.{ℕ, List, [], ◌∷◌, ◌++◌, ◌+◌, Bool, false, ◌&&◌, not, Option, Some, None, map, filter, flat_map, if◌then◌else◌}
use Rattle.sig_subject.specs.declared.plain.Plain.TheVariants as plain
use Rattle.sig_subject.specs.declared.simple.Simple.TheVariants as simple
use Rattle.sig_subject.specs.declared.subject.Subject.{Subject}
use Rattle.sig_subject.specs.declared.subject.Subject.TheVariants as subject
use Rattle.sig_event.specs.declared.event.Event.TheVariants as event
use Rattle.sig_event.specs.declared.news.News.{News}
use Rattle.sig_event.specs.declared.status.Status.{Status}
use Rattle.sig_event.specs.declared.status.Status.TheVariants as status
use Rattle.sig_terms.specs.declared.configuration.StreamConf.{StreamConf}
use Rattle.sig_terms.specs.declared.want.Delivery.{Delivery}
use Rattle.sig_terms.specs.declared.fact.Fact.{Fact}
use Rattle.sig_terms.specs.declared.fact.Fact.TheVariants.{Created, Configured, StatusSet, Listed, Unlisted, Deleted, Published, Settled, Asked}
use Rattle.sig_history.specs.Streams.{Stream, Count, Publication, Made, Parts, client_in, count_one, created_by, is_due, is_named, issued_of, list_added, list_removed, next_token, put_in_order, with_asked, with_conf, with_listed, with_made, with_status}

-- when it was; only facts that make tokens have a time that is asked
abbrev pub time_of : Fact → ℕ
time_of (Created conf time) = time
time_of (Configured stream requested delivery description) = 0
time_of (StatusSet stream status reason operator time) = time
time_of (Listed stream subject) = 0
time_of (Unlisted stream subject) = 0
time_of (Deleted stream) = 0
time_of (Published id news time) = time
time_of (Settled stream items) = 0
time_of (Asked stream state time) = time

-- the subject of what is said of a stream itself (Shared Signals Framework 1.0, section 8.1.4)
abbrev pub stream_subject : List ℕ → Subject
stream_subject stream = subject.Simple (simple.Plain (plain.Opaque stream))

-- a verification of a stream (Shared Signals Framework 1.0, section 8.1.4), and a change of its status (section 8.1.5)
abbrev pub verified_news : List ℕ → Option (List ℕ) → News
verified_news stream state = record { subject = stream_subject stream; event = event.Verification state }

abbrev pub updated_news : List ℕ → Status → Option (List ℕ) → News
updated_news stream status reason = record { subject = stream_subject stream; event = event.StreamUpdated status reason }

-- the news that it tells
abbrev pub said_by : Fact → Option News
said_by (Created conf time) = None
said_by (Configured stream requested delivery description) = None
said_by (StatusSet stream status reason operator time) = Some (updated_news stream status reason)
said_by (Listed stream subject) = None
said_by (Unlisted stream subject) = None
said_by (Deleted stream) = None
said_by (Published id news time) = Some news
said_by (Settled stream items) = None
said_by (Asked stream state time) = Some (verified_news stream state)

-- whether it tells them a stream that stands: a publication those on which it is due, the operator's status and a verification
-- the one that they name
abbrev pub is_told : Fact → Stream → Bool
is_told (Created conf time) s = false
is_told (Configured stream requested delivery description) s = false
is_told (StatusSet stream status reason operator time) s = operator && is_named stream s
is_told (Listed stream subject) s = false
is_told (Unlisted stream subject) s = false
is_told (Deleted stream) s = false
is_told (Published id news time) s = is_due news s
is_told (Settled stream items) s = false
is_told (Asked stream state time) s = is_named stream s

-- a configuration with what a receiver may set of it
abbrev pub configured : Option (List (List ℕ)) → Delivery → Option (List ℕ) → StreamConf → StreamConf
configured requested delivery description c = record {
  stream = c.stream;
  iss = c.iss;
  aud = c.aud;
  requested = requested;
  delivery = delivery;
  interval = c.interval;
  defaults = c.defaults;
  description = description;
}

-- a change of the stream of a name alone
abbrev pub of_named : List ℕ → (Stream → Stream) → Stream → Stream
of_named name change s = if is_named name s then change s else s

-- what it makes of a stream that stands, beside its tokens
abbrev pub changed_by : Fact → Stream → Stream
changed_by (Created conf time) s = s
changed_by (Configured stream requested delivery description) s =
    of_named stream (λ (t : Stream). with_conf (configured requested delivery description t.conf) t) s
changed_by (StatusSet stream status reason operator time) s = of_named stream (with_status status reason) s
changed_by (Listed stream subject) s = of_named stream (λ (t : Stream). with_listed (list_added subject t.listed) t) s
changed_by (Unlisted stream subject) s = of_named stream (λ (t : Stream). with_listed (list_removed subject t.listed) t) s
changed_by (Deleted stream) s = s
changed_by (Published id news time) s = s
changed_by (Settled stream items) s = s
changed_by (Asked stream state time) s = of_named stream (with_asked time) s

-- a stream that was just made: it is enabled, has nobody on its list, and owes nothing
abbrev pub new_stream : List ℕ → ℕ → StreamConf → Stream
new_stream client number conf = record {
  client = client;
  number = number;
  conf = conf;
  status = status.Enabled;
  reason = None;
  listed = [];
  asked = None;
  made = 0;
}

-- the stream that it brings, over the parts before it
abbrev pub brought_by : Parts → Fact → Option Stream
brought_by parts (Created conf time) = Some (new_stream (client_in conf.stream) (created_by (client_in conf.stream) parts.created + 1) conf)
brought_by parts (Configured stream requested delivery description) = None
brought_by parts (StatusSet stream status reason operator time) = None
brought_by parts (Listed stream subject) = None
brought_by parts (Unlisted stream subject) = None
brought_by parts (Deleted stream) = None
brought_by parts (Published id news time) = None
brought_by parts (Settled stream items) = None
brought_by parts (Asked stream state time) = None

-- the name of the stream that it takes away
abbrev pub removed_by : Fact → Option (List ℕ)
removed_by (Created conf time) = None
removed_by (Configured stream requested delivery description) = None
removed_by (StatusSet stream status reason operator time) = None
removed_by (Listed stream subject) = None
removed_by (Unlisted stream subject) = None
removed_by (Deleted stream) = Some stream
removed_by (Published id news time) = None
removed_by (Settled stream items) = None
removed_by (Asked stream state time) = None

-- ---- by shape, whatever the fact is

-- the news that it tells a stream that stands, by one token; none makes none
abbrev pub tells : Fact → Stream → Option News
tells f s = if is_told f s then said_by f else None

-- the token that tells a stream news
abbrev pub token_by : List ℕ → ℕ → Stream → Option News → List Made
token_by store_id time s None = []
token_by store_id time s (Some n) = next_token store_id n time s ∷ []

-- a stream that was told news has one more token
abbrev pub told_one : Option News → Stream → Stream
told_one None s = s
told_one (Some n) s = with_made (s.made + 1) s

abbrev pub stream_after : Fact → Stream → Stream
stream_after f s = told_one (tells f s) (changed_by f s)

-- the token that a fact makes for a stream
abbrev pub token_for : List ℕ → Fact → Stream → List Made
token_for store_id f s = token_by store_id (time_of f) s (tells f s)

-- the tokens that a fact makes, over the parts before it: at most one for each stream, in order of client name and number
abbrev pub made_by : Parts → Fact → List Made
made_by parts f = flat_map (token_for parts.store_id f) parts.streams

-- the streams with one that is brought in its place, and its client's count
abbrev pub placed : Option Stream → List Stream → List Stream
placed None streams = streams
placed (Some s) streams = put_in_order s streams

abbrev pub counted : Option Stream → List Count → List Count
counted None created = created
counted (Some s) created = count_one s.client created

-- the streams without one that is taken away
abbrev pub without : Option (List ℕ) → List Stream → List Stream
without None streams = streams
without (Some name) streams = filter (λ s. not (is_named name s)) streams

-- what a fact publishes
abbrev pub published_by : Parts → Fact → List Publication
published_by parts (Created conf time) = []
published_by parts (Configured stream requested delivery description) = []
published_by parts (StatusSet stream status reason operator time) = []
published_by parts (Listed stream subject) = []
published_by parts (Unlisted stream subject) = []
published_by parts (Deleted stream) = []
published_by parts (Published id news time) =
    record { id = id; news = news; issued = map issued_of (made_by parts (Published id news time)) } ∷ []
published_by parts (Settled stream items) = []
published_by parts (Asked stream state time) = []

-- the parts after a fact
abbrev pub parts_after : Parts → Fact → Parts
parts_after parts f = record {
  store_id = parts.store_id;
  streams = placed (brought_by parts f) (without (removed_by f) (map (stream_after f) parts.streams));
  created = counted (brought_by parts f) parts.created;
  published = parts.published ++ published_by parts f;
}

-- the parts after facts, one after another
abbrev pub parts_of : Parts → List Fact → Parts
parts_of parts [] = parts
parts_of parts (f ∷ fs) = parts_of (parts_after parts f) fs

-- the tokens that facts make, in order
abbrev pub tokens_of : Parts → List Fact → List Made
tokens_of parts [] = []
tokens_of parts (f ∷ fs) = made_by parts f ++ tokens_of (parts_after parts f) fs
