-- What a fact makes of the stream that it names, whatever the history came to before it.
use Rattle.std.specs.Prelude.{◌≡◌, ◌⊎◌, ◌↔◌, ◌+◌, ℕ, List, [], ◌∷◌, ◌++◌, Bool, true, false, Option, Some, None, Contains, bytes_eq, filter, if◌then◌else◌}
use Rattle.sig_subject.specs.Matching.{is_identical}
use Rattle.sig_subject.specs.Written.{IsProperSubject}
use Rattle.sig_subject.specs.declared.subject.Subject.{Subject}
use Rattle.sig_event.specs.Events.{uri_of}
use Rattle.sig_event.specs.declared.news.News.{News}
use Rattle.sig_event.specs.declared.status.Status.{Status}
use Rattle.sig_terms.specs.Fitting.{delivers}
use Rattle.sig_terms.specs.declared.fact.Fact.{Fact}
use Rattle.sig_terms.specs.declared.fact.Fact.TheVariants.{Created, Configured, StatusSet, Listed, Unlisted, Deleted, Published, Settled, Asked}
use Rattle.sig_terms.specs.declared.want.Defaults.{Defaults}
use Rattle.sig_terms.specs.declared.want.Defaults.TheVariants as defaults
use Rattle.sig_terms.specs.declared.want.Delivery.{Delivery}
use Rattle.sig_history.specs.Streams.{Stream, is_disabled, is_due, is_enabled, is_notice}
use Rattle.sig_history.specs.Owed.{Sum, offered_by, owed_by, stream_named, sum_of}
use Rattle.sig_history.specs.Whole.{IsWhole}

-- ---- other streams

-- the stream that a fact names
abbrev pub stream_of : Fact → Option (List ℕ)
stream_of (Created conf time) = Some conf.stream
stream_of (Configured stream requested delivery description) = Some stream
stream_of (StatusSet stream status reason operator time) = Some stream
stream_of (Listed stream subject) = Some stream
stream_of (Unlisted stream subject) = Some stream
stream_of (Deleted stream) = Some stream
stream_of (Published id news time) = None
stream_of (Settled stream items) = Some stream
stream_of (Asked stream state time) = Some stream

-- a fact that names a stream leaves every other one and what it owes as they were
abbrev pub FactsLeaveOthers : Type 0
FactsLeaveOthers = (sum : Sum) (f : Fact) (name other : List ℕ) → IsWhole sum → stream_of f ≡ Some name → bytes_eq name other ≡ false
    → (stream_named other (sum_of sum (f ∷ [])).parts.streams ≡ stream_named other sum.parts.streams)
    × (owed_by (sum_of sum (f ∷ [])) other ≡ owed_by sum other)

-- ---- the stream itself

-- a fact makes of the stream of a name one of which this holds beside what it was before
abbrev pub Makes : Fact → List ℕ → (Stream → Stream → Type 0) → Type 0
Makes f name P = (sum : Sum) (s : Stream) → stream_named name sum.parts.streams ≡ Some s
    → (t : Stream) × (stream_named name (sum_of sum (f ∷ [])).parts.streams ≡ Some t) × P s t

-- it has what a receiver set of it, and all else of it is as before (Shared Signals Framework 1.0, section 8.1.1)
pub record IsConfigured (events : Option (List (List ℕ))) (way : Delivery) (words : Option (List ℕ)) (s t : Stream) : Type 0 where
  pub requested : t.conf.requested ≡ events
  pub delivery : t.conf.delivery ≡ way
  pub description : t.conf.description ≡ words
  pub client : t.client ≡ s.client
  pub number : t.number ≡ s.number
  pub stream : t.conf.stream ≡ s.conf.stream
  pub iss : t.conf.iss ≡ s.conf.iss
  pub aud : t.conf.aud ≡ s.conf.aud
  pub interval : t.conf.interval ≡ s.conf.interval
  pub defaults : t.conf.defaults ≡ s.conf.defaults
  pub status : t.status ≡ s.status
  pub reason : t.reason ≡ s.reason
  pub listed : t.listed ≡ s.listed
  pub asked : t.asked ≡ s.asked
  pub made : t.made ≡ s.made

abbrev pub ConfiguringSetsWhatItSays : Type 0
ConfiguringSetsWhatItSays = (stream : List ℕ) (requested : Option (List (List ℕ))) (delivery : Delivery) (description : Option (List ℕ)) →
    Makes (Configured stream requested delivery description) stream (IsConfigured requested delivery description)

-- it has a status and why it was set, one token more where its receiver is told, and all else of it is as before (section 8.1.2)
pub record HasStatus (new : Status) (why : Option (List ℕ)) (told : Bool) (s t : Stream) : Type 0 where
  pub status : t.status ≡ new
  pub reason : t.reason ≡ why
  pub made : t.made ≡ (if told then s.made + 1 else s.made)
  pub client : t.client ≡ s.client
  pub number : t.number ≡ s.number
  pub conf : t.conf ≡ s.conf
  pub listed : t.listed ≡ s.listed
  pub asked : t.asked ≡ s.asked

abbrev pub StatusIsSet : Type 0
StatusIsSet = (stream : List ℕ) (status : Status) (reason : Option (List ℕ)) (operator : Bool) (time : ℕ) →
    Makes (StatusSet stream status reason operator time) stream (HasStatus status reason operator)

-- all of it but its list is as before
pub record HasOtherList (s t : Stream) : Type 0 where
  pub client : t.client ≡ s.client
  pub number : t.number ≡ s.number
  pub conf : t.conf ≡ s.conf
  pub status : t.status ≡ s.status
  pub reason : t.reason ≡ s.reason
  pub asked : t.asked ≡ s.asked
  pub made : t.made ≡ s.made

-- a subject is on the list once more, at its end, or was there (section 8.1.3)
abbrev pub IsListedOn : Subject → Stream → Stream → Type 0
IsListedOn subject s t =
    HasOtherList s t × ((Contains s.listed subject × (t.listed ≡ s.listed)) ⊎ ((Contains s.listed subject → ⊥) × (t.listed ≡ s.listed ++ subject ∷ [])))

abbrev pub ListingPutsOn : Type 0
ListingPutsOn = (stream : List ℕ) (subject : Subject) → Makes (Listed stream subject) stream (IsListedOn subject)

-- a subject isn't on the list, and every other is where it was
abbrev pub IsOffList : Subject → Stream → Stream → Type 0
IsOffList subject s t =
    HasOtherList s t × (Contains t.listed subject → ⊥) × ((other : Subject) → is_identical subject other ≡ false → Contains t.listed other ↔ Contains s.listed other)

abbrev pub UnlistingTakesOff : Type 0
UnlistingTakesOff = (stream : List ℕ) (subject : Subject) → Makes (Unlisted stream subject) stream (IsOffList subject)

-- ---- what that makes due

-- a stream with these default subjects, which isn't disabled and delivers the event
pub record MayGet (given : Defaults) (n : News) (s : Stream) : Type 0 where
  pub defaults : s.conf.defaults ≡ given
  pub on : is_disabled s.status ≡ false
  pub delivers : delivers s.conf (uri_of n.event) ≡ true

abbrev pub IsDueOn : Defaults → News → Stream → Stream → Type 0
IsDueOn given n s t = MayGet given n s → is_due n t ≡ true

abbrev pub IsNotDueOn : Defaults → News → Stream → Stream → Type 0
IsNotDueOn given n s t = MayGet given n s → is_due n t ≡ false

-- where no subject is one of a stream's by default, news of a listed one are due; where all are, those of an unlisted one, and not
-- those of a listed one (section 7.1)
abbrev pub ListingDecidesWhatIsDue : Type 0
ListingDecidesWhatIsDue = (stream : List ℕ) (n : News) → IsProperSubject n.subject →
    Makes (Listed stream n.subject) stream (IsDueOn defaults.None n)
    × Makes (Unlisted stream n.subject) stream (IsDueOn defaults.All n)
    × Makes (Listed stream n.subject) stream (IsNotDueOn defaults.All n)

-- ---- what is offered

-- an enabled stream offers all that it owes, and any other the tokens alone that tell of its status (section 8.1.2.1)
abbrev pub StatusDecidesWhatIsOffered : Type 0
StatusDecidesWhatIsOffered = (sum : Sum) (name : List ℕ) (s : Stream) → stream_named name sum.parts.streams ≡ Some s
    → offered_by sum name ≡ (if is_enabled s.status then owed_by sum name else filter is_notice (owed_by sum name))
