-- The parts that facts have beside plain fields: how each is spelled, and how it is read.
--
--     status          00 enabled, 01 paused, 02 disabled
--     defaults        a flag: 01 is all subjects, 00 none
--     delivery        a flag: 00 is poll; 01 is push, and then the url as a text and, where it is there, the authorization
--     subject         the JSON text of the subject, as a text
--     news            the subject, the URI of the event, and the JSON text of its payload as a text
--
-- A JSON text is the one that is written of what it is read as, and no other spelling of the same value.
use Rattle.std.specs.Prelude.{◌==◌, ℕ, List, ◌∷◌, ◌++◌, Bool, true, false, Option, Some, None, Result, option_and_then, option_map, bytes_eq, if◌then◌else◌}
use Rattle.std.specs.Result.{result_ok}
use Rattle.serde_json.specs.Data.{Data}
use Rattle.serde_json.specs.Written.{compact_text}
use Rattle.sig_json.specs.Canon.{without_fraction}
use Rattle.sig_json.specs.Json.{json_of}
use Rattle.sig_json.specs.declared.limits.TheConstants.{INTERVAL_SECONDS}
use Rattle.sig_fields.specs.Kinds as kinds
use Rattle.sig_fields.specs.Reading.{given, ruled, ◌>>=◌}
use Rattle.sig_subject.specs.declared.subject.Subject.{Subject}
use Rattle.sig_subject.specs.Reading.{subject_of}
use Rattle.sig_subject.specs.Written.{subject_data}
use Rattle.sig_event.specs.declared.event.Event.{Event}
use Rattle.sig_event.specs.declared.news.News.{News}
use Rattle.sig_event.specs.declared.status.Status.{Status}
use Rattle.sig_event.specs.declared.status.Status.TheVariants.{Enabled, Paused, Disabled}
use Rattle.sig_event.specs.Events.{event_of, event_text, uri_of}
use Rattle.sig_event.specs.News.{news}
use Rattle.sig_terms.specs.Fitting.{is_published_uri}
use Rattle.sig_terms.specs.declared.configuration.StreamConf.{StreamConf}
use Rattle.sig_terms.specs.declared.endpoint.Endpoint.{Endpoint}
use Rattle.sig_terms.specs.declared.fact.SettledItem.{SettledItem}
use Rattle.sig_terms.specs.declared.want.Defaults.{Defaults}
use Rattle.sig_terms.specs.declared.want.Defaults.TheVariants as defaults
use Rattle.sig_terms.specs.declared.want.Delivery.{Delivery}
use Rattle.sig_terms.specs.declared.want.Delivery.TheVariants.{Poll, Push}
use Rattle.sig_stream.specs.Endpoints.{endpoint_of}

-- ---- the status of a stream, and its default subjects (OpenID Shared Signals Framework 1.0, sections 7.1 and 8.1.2)

abbrev pub status_byte : Status → ℕ
status_byte Enabled = 0
status_byte Paused = 1
status_byte Disabled = 2

abbrev pub status_in : ℕ → Option Status
status_in b = if b == 0 then Some Enabled else if b == 1 then Some Paused else if b == 2 then Some Disabled else None

abbrev pub status_bytes : Status → List ℕ
status_bytes s = kinds.byte_bytes (status_byte s)

abbrev pub status : List ℕ → Result (Status × List ℕ) (List ℕ)
status = ruled status_in kinds.byte

abbrev pub are_all : Defaults → Bool
are_all defaults.All = true
are_all defaults.None = false

abbrev pub defaults_by : Bool → Option Defaults
defaults_by true = Some defaults.All
defaults_by false = Some defaults.None

abbrev pub defaults_bytes : Defaults → List ℕ
defaults_bytes d = kinds.flag_bytes (are_all d)

abbrev pub default_subjects : List ℕ → Result (Defaults × List ℕ) (List ℕ)
default_subjects = ruled defaults_by kinds.flag

-- ---- delivery (RFC 8935, RFC 8936)

abbrev pub delivery_bytes : Delivery → List ℕ
delivery_bytes Poll = kinds.flag_bytes false
delivery_bytes (Push endpoint url authorization) = kinds.flag_bytes true ++ kinds.text_bytes url ++ kinds.maybe_bytes kinds.text_bytes authorization

-- a url with the endpoint that it spells
abbrev pub address_in : List ℕ → Option (Endpoint × List ℕ)
address_in url = option_map (λ endpoint. (endpoint, url)) (endpoint_of url)

abbrev pub push : List ℕ → Result (Delivery × List ℕ) (List ℕ)
push = do
  address ← ruled address_in kinds.text
  authorization ← kinds.maybe kinds.text
  given (Push address.0 address.1 authorization)

abbrev pub delivery_by : Bool → List ℕ → Result (Delivery × List ℕ) (List ℕ)
delivery_by false = given Poll
delivery_by true = push

abbrev pub delivery : List ℕ → Result (Delivery × List ℕ) (List ℕ)
delivery = do
  is_push ← kinds.flag
  delivery_by is_push

-- ---- subjects (RFC 9493) and events

-- the JSON text that is written of a subject; of one with a fraction, which none that was read has, it is null
abbrev pub subject_written : Subject → List ℕ
subject_written s = compact_text (without_fraction (subject_data s))

abbrev pub subject_bytes : Subject → List ℕ
subject_bytes s = kinds.text_bytes (subject_written s)

-- the subject, where this is the text that is written of it
abbrev pub subject_so : List ℕ → Subject → Option Subject
subject_so text s = if bytes_eq (subject_written s) text then Some s else None

abbrev pub subject_at : Data → Option Subject
subject_at v = result_ok (subject_of v)

abbrev pub subject_in : List ℕ → Option Subject
subject_in text = option_and_then (subject_so text) (option_and_then subject_at (json_of text))

abbrev pub subject : List ℕ → Result (Subject × List ℕ) (List ℕ)
subject = ruled subject_in kinds.text

-- the URI of a type that transmitters publish
abbrev pub uri_in : List ℕ → Option (List ℕ)
uri_in uri = if is_published_uri uri then Some uri else None

-- the event, where this is the text that is written of its payload
abbrev pub event_so : List ℕ → Event → Option Event
event_so text e = if bytes_eq (event_text e) text then Some e else None

abbrev pub event_at : Subject → List ℕ → Data → Option Event
event_at s uri v = result_ok (event_of uri v s)

-- the event under a URI about a subject that a text spells as its payload
abbrev pub event_in : Subject → List ℕ → List ℕ → Option Event
event_in s uri text = option_and_then (event_so text) (option_and_then (event_at s uri) (json_of text))

abbrev pub news_bytes : News → List ℕ
news_bytes n = subject_bytes n.subject ++ kinds.text_bytes (uri_of n.event) ++ kinds.text_bytes (event_text n.event)

abbrev pub told_news : List ℕ → Result (News × List ℕ) (List ℕ)
told_news = do
  s ← subject
  uri ← ruled uri_in kinds.text
  e ← ruled (event_in s uri) kinds.text
  given (news s e)

-- news of any type, as a token tells them
abbrev pub any_news : List ℕ → Result (News × List ℕ) (List ℕ)
any_news = do
  s ← subject
  uri ← kinds.text
  e ← ruled (event_in s uri) kinds.text
  given (news s e)

-- ---- tokens that are owed no more

abbrev pub settled_bytes : SettledItem → List ℕ
settled_bytes i = kinds.number_bytes i.number ++ kinds.maybe_bytes kinds.text_bytes i.code

abbrev pub settled : List ℕ → Result (SettledItem × List ℕ) (List ℕ)
settled = do
  number ← kinds.number
  code ← kinds.maybe kinds.text
  given (record { number = number; code = code })

-- ---- configurations (OpenID Shared Signals Framework 1.0, section 8.1.1)

abbrev pub conf_bytes : StreamConf → List ℕ
conf_bytes c =
    kinds.text_bytes c.stream ++ kinds.text_bytes c.iss ++ kinds.list_bytes kinds.text_bytes c.aud ++ kinds.maybe_bytes (kinds.list_bytes kinds.text_bytes) c.requested
    ++ delivery_bytes c.delivery ++ kinds.number_bytes c.interval ++ defaults_bytes c.defaults ++ kinds.maybe_bytes kinds.text_bytes c.description

abbrev pub configuration : List ℕ → Result (StreamConf × List ℕ) (List ℕ)
configuration = do
  stream ← kinds.text
  iss ← kinds.text
  aud ← kinds.list kinds.text
  requested ← kinds.maybe (kinds.list kinds.text)
  way ← delivery
  interval ← kinds.number_up_to INTERVAL_SECONDS
  subjects ← default_subjects
  description ← kinds.maybe kinds.text
  given (record {
    stream = stream;
    iss = iss;
    aud = aud;
    requested = requested;
    delivery = way;
    interval = interval;
    defaults = subjects;
    description = description;
  })
