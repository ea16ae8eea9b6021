-- The bytes of a fact: its kind in one byte, and its fields in order.
--
--     01   Created      the configuration: stream, iss, list of aud, maybe list of requested, delivery, interval, defaults,
--                       maybe description; and the time
--     02   Configured   stream, maybe list of requested, delivery, maybe description
--     03   StatusSet    stream, status, maybe reason, whether the operator set it, time
--     04   Listed       stream, subject
--     05   Unlisted     stream, subject
--     06   Deleted      stream
--     07   Published    id, subject, URI, payload, time
--     08   Settled      stream, list of numbers, each with a maybe code
--     09   Asked        stream, maybe state, time
use Rattle.std.specs.Prelude.{◌==◌, ℕ, List, ◌∷◌, ◌++◌, Option, Some, None, Result, if◌then◌else◌}
use Rattle.sig_json.specs.declared.limits.TheConstants.{LAST_NUMBER}
use Rattle.sig_fields.specs.declared.fault.DecodeFault.{DecodeFault}
use Rattle.sig_fields.specs.Kinds as kinds
use Rattle.sig_fields.specs.Reading.{given, ruled, ◌>>=◌}
use Rattle.sig_fields.specs.Whole.{whole}
use Rattle.sig_terms.specs.declared.fact.Fact.{Fact}
use Rattle.sig_terms.specs.declared.fact.Fact.TheVariants as fact
use Rattle.sig_entry.specs.declared.fact_kind.FactKind.{FactKind}
use Rattle.sig_entry.specs.declared.fact_kind.FactKind.TheVariants.{Created, Configured, StatusSet, Listed, Unlisted, Deleted, Published, Settled, Asked}
use Rattle.sig_entry.specs.Parts as parts

-- ---- kinds

abbrev pub kind_byte : FactKind → ℕ
kind_byte Created = 1
kind_byte Configured = 2
kind_byte StatusSet = 3
kind_byte Listed = 4
kind_byte Unlisted = 5
kind_byte Deleted = 6
kind_byte Published = 7
kind_byte Settled = 8
kind_byte Asked = 9

abbrev pub kind_in : ℕ → Option FactKind
kind_in b =
    if b == 1 then Some Created
    else if b == 2 then Some Configured
    else if b == 3 then Some StatusSet
    else if b == 4 then Some Listed
    else if b == 5 then Some Unlisted
    else if b == 6 then Some Deleted
    else if b == 7 then Some Published
    else if b == 8 then Some Settled
    else if b == 9 then Some Asked
    else None

abbrev pub kind_of : Fact → FactKind
kind_of (fact.Created conf time) = Created
kind_of (fact.Configured stream requested delivery description) = Configured
kind_of (fact.StatusSet stream status reason operator time) = StatusSet
kind_of (fact.Listed stream subject) = Listed
kind_of (fact.Unlisted stream subject) = Unlisted
kind_of (fact.Deleted stream) = Deleted
kind_of (fact.Published id news time) = Published
kind_of (fact.Settled stream items) = Settled
kind_of (fact.Asked stream state time) = Asked

-- ---- how a fact is spelled

abbrev pub fields_bytes : Fact → List ℕ
fields_bytes (fact.Created conf time) = parts.conf_bytes conf ++ kinds.number_bytes time
fields_bytes (fact.Configured stream requested delivery description) =
    kinds.text_bytes stream ++ kinds.maybe_bytes (kinds.list_bytes kinds.text_bytes) requested ++ parts.delivery_bytes delivery ++ kinds.maybe_bytes kinds.text_bytes description
fields_bytes (fact.StatusSet stream status reason operator time) =
    kinds.text_bytes stream ++ parts.status_bytes status ++ kinds.maybe_bytes kinds.text_bytes reason ++ kinds.flag_bytes operator ++ kinds.number_bytes time
fields_bytes (fact.Listed stream subject) = kinds.text_bytes stream ++ parts.subject_bytes subject
fields_bytes (fact.Unlisted stream subject) = kinds.text_bytes stream ++ parts.subject_bytes subject
fields_bytes (fact.Deleted stream) = kinds.text_bytes stream
fields_bytes (fact.Published id news time) = kinds.text_bytes id ++ parts.news_bytes news ++ kinds.number_bytes time
fields_bytes (fact.Settled stream items) = kinds.text_bytes stream ++ kinds.list_bytes parts.settled_bytes items
fields_bytes (fact.Asked stream state time) = kinds.text_bytes stream ++ kinds.maybe_bytes kinds.text_bytes state ++ kinds.number_bytes time

abbrev pub spelling_of : Fact → List ℕ
spelling_of f = kinds.byte_bytes (kind_byte (kind_of f)) ++ fields_bytes f

-- ---- how it is read

-- a time, at most 2^62
abbrev pub time : List ℕ → Result (ℕ × List ℕ) (List ℕ)
time = kinds.number_up_to LAST_NUMBER

abbrev pub created : List ℕ → Result (Fact × List ℕ) (List ℕ)
created = do
  conf ← parts.configuration
  at ← time
  given (fact.Created conf at)

abbrev pub configured : List ℕ → Result (Fact × List ℕ) (List ℕ)
configured = do
  stream ← kinds.text
  requested ← kinds.maybe (kinds.list kinds.text)
  delivery ← parts.delivery
  description ← kinds.maybe kinds.text
  given (fact.Configured stream requested delivery description)

abbrev pub status_set : List ℕ → Result (Fact × List ℕ) (List ℕ)
status_set = do
  stream ← kinds.text
  status ← parts.status
  reason ← kinds.maybe kinds.text
  operator ← kinds.flag
  at ← time
  given (fact.StatusSet stream status reason operator at)

abbrev pub listed : List ℕ → Result (Fact × List ℕ) (List ℕ)
listed = do
  stream ← kinds.text
  subject ← parts.subject
  given (fact.Listed stream subject)

abbrev pub unlisted : List ℕ → Result (Fact × List ℕ) (List ℕ)
unlisted = do
  stream ← kinds.text
  subject ← parts.subject
  given (fact.Unlisted stream subject)

abbrev pub deleted : List ℕ → Result (Fact × List ℕ) (List ℕ)
deleted = do
  stream ← kinds.text
  given (fact.Deleted stream)

abbrev pub published : List ℕ → Result (Fact × List ℕ) (List ℕ)
published = do
  id ← kinds.text
  news ← parts.told_news
  at ← time
  given (fact.Published id news at)

abbrev pub settled : List ℕ → Result (Fact × List ℕ) (List ℕ)
settled = do
  stream ← kinds.text
  items ← kinds.list parts.settled
  given (fact.Settled stream items)

abbrev pub asked : List ℕ → Result (Fact × List ℕ) (List ℕ)
asked = do
  stream ← kinds.text
  state ← kinds.maybe kinds.text
  at ← time
  given (fact.Asked stream state at)

abbrev pub fields_of : FactKind → List ℕ → Result (Fact × List ℕ) (List ℕ)
fields_of Created = created
fields_of Configured = configured
fields_of StatusSet = status_set
fields_of Listed = listed
fields_of Unlisted = unlisted
fields_of Deleted = deleted
fields_of Published = published
fields_of Settled = settled
fields_of Asked = asked

abbrev pub read_fact : List ℕ → Result (Fact × List ℕ) (List ℕ)
read_fact = do
  kind ← ruled kind_in kinds.byte
  fields_of kind

-- the fact that bytes spell, or the offset of the first part that is cut or breaks its rule; where there is none and bytes follow the last
-- field, that of the first byte after it
abbrev pub decoded : List ℕ → Result Fact DecodeFault
decoded = whole read_fact
