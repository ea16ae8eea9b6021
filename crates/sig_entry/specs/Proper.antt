-- Which facts are proper: those that a transmitter's journal can hold.
use Rattle.std.specs.Prelude.{◌≡◌, ◌<◌, ◌≤◌, ◌^◌, ℕ, List, length, true, Option, Some, ⊤}
use Rattle.sig_json.specs.declared.limits.TheConstants.{INTERVAL_SECONDS, LAST_NUMBER}
use Rattle.sig_fields.specs.Agreeing.{IsProperList, IsProperMaybe, IsProperText}
use Rattle.sig_subject.specs.declared.subject.Subject.{Subject}
use Rattle.sig_subject.specs.Written.{IsProperSubject}
use Rattle.sig_event.specs.declared.news.News.{News}
use Rattle.sig_event.specs.Events.{IsProperEvent, event_text, type_of_event, uri_of}
use Rattle.sig_event.specs.Types.{is_published}
use Rattle.sig_terms.specs.declared.configuration.StreamConf.{StreamConf}
use Rattle.sig_terms.specs.declared.fact.Fact.{Fact}
use Rattle.sig_terms.specs.declared.fact.Fact.TheVariants as fact
use Rattle.sig_terms.specs.declared.fact.SettledItem.{SettledItem}
use Rattle.sig_terms.specs.declared.want.Delivery.{Delivery}
use Rattle.sig_terms.specs.declared.want.Delivery.TheVariants.{Poll, Push}
use Rattle.sig_stream.specs.Endpoints.{endpoint_of}
use Rattle.sig_entry.specs.Parts.{subject_written}

-- texts that may be there, and lists of texts
abbrev pub IsProperWords : Option (List ℕ) → Type 0
IsProperWords = IsProperMaybe IsProperText

abbrev pub AreProperTexts : List (List ℕ) → Type 0
AreProperTexts = IsProperList IsProperText

-- the endpoint is the one that the url spells
abbrev pub IsProperDelivery : Delivery → Type 0
IsProperDelivery Poll = ⊤
IsProperDelivery (Push endpoint url authorization) = IsProperText url × (endpoint_of url ≡ Some endpoint) × IsProperWords authorization

-- a proper subject, whose text has fewer than 2^32 bytes
abbrev pub IsShortSubject : Subject → Type 0
IsShortSubject s = IsProperSubject s × (length (subject_written s) < 2 ^ 32)

-- a proper subject, and a proper event about it of a type that transmitters publish; their texts have fewer than 2^32 bytes
pub record IsShortNews (n : News) : Type 0 where
  pub subject : IsShortSubject n.subject
  pub event : IsProperEvent n.event n.subject
  pub type : is_published (type_of_event n.event) ≡ true
  pub short : length (event_text n.event) < 2 ^ 32

-- a proper subject, and a proper event of any type about it; their texts and the URI have fewer than 2^32 bytes
pub record IsShortTold (n : News) : Type 0 where
  pub subject : IsShortSubject n.subject
  pub uri : IsProperText (uri_of n.event)
  pub event : IsProperEvent n.event n.subject
  pub short : length (event_text n.event) < 2 ^ 32

abbrev pub IsProperItem : SettledItem → Type 0
IsProperItem i = (i.number < 2 ^ 64) × IsProperWords i.code

pub record IsProperConf (c : StreamConf) : Type 0 where
  pub stream : IsProperText c.stream
  pub iss : IsProperText c.iss
  pub aud : AreProperTexts c.aud
  pub requested : IsProperMaybe AreProperTexts c.requested
  pub delivery : IsProperDelivery c.delivery
  pub interval : c.interval ≤ INTERVAL_SECONDS
  pub description : IsProperWords c.description

-- its texts are UTF-8 of fewer than 2^32 bytes and its lists have fewer than 2^32 items, its subject and event are proper, its endpoint is the
-- one that its url spells, its time is at most 2^62 and its interval at most 86,400
abbrev pub IsProperFact : Fact → Type 0
IsProperFact (fact.Created conf time) = IsProperConf conf × (time ≤ LAST_NUMBER)
IsProperFact (fact.Configured stream requested delivery description) =
    IsProperText stream × IsProperMaybe AreProperTexts requested × IsProperDelivery delivery × IsProperWords description
IsProperFact (fact.StatusSet stream status reason operator time) = IsProperText stream × IsProperWords reason × (time ≤ LAST_NUMBER)
IsProperFact (fact.Listed stream subject) = IsProperText stream × IsShortSubject subject
IsProperFact (fact.Unlisted stream subject) = IsProperText stream × IsShortSubject subject
IsProperFact (fact.Deleted stream) = IsProperText stream
IsProperFact (fact.Published id news time) = IsProperText id × IsShortNews news × (time ≤ LAST_NUMBER)
IsProperFact (fact.Settled stream items) = IsProperText stream × IsProperList IsProperItem items
IsProperFact (fact.Asked stream state time) = IsProperText stream × IsProperWords state × (time ≤ LAST_NUMBER)
