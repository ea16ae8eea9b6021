-- For which streams a publication makes a token, in the standard's terms.
use Rattle.std.specs.Prelude.{◌≡◌, ◌↔◌, ℕ, List, Option, Some, Contains, IfSome}
use Rattle.sig_subject.specs.Matching.{part_named}
use Rattle.sig_subject.specs.declared.member.Member.{Member}
use Rattle.sig_subject.specs.declared.simple.Simple.{Simple}
use Rattle.sig_subject.specs.declared.subject.Subject.{Subject}
use Rattle.sig_subject.specs.declared.subject.Subject.TheVariants as subject
use Rattle.sig_event.specs.Events.{uri_of}
use Rattle.sig_event.specs.Types.{published_types, uri_of_type}
use Rattle.sig_event.specs.declared.event_type.EventType.{EventType}
use Rattle.sig_event.specs.declared.news.News.{News}
use Rattle.sig_event.specs.declared.status.Status.TheVariants as status
use Rattle.sig_terms.specs.declared.fact.Fact.{Fact}
use Rattle.sig_terms.specs.declared.fact.Fact.TheVariants.{Published}
use Rattle.sig_terms.specs.declared.want.Defaults.{Defaults}
use Rattle.sig_terms.specs.declared.want.Defaults.TheVariants as defaults
use Rattle.sig_history.specs.Streams.{Made, Stream}
use Rattle.sig_history.specs.Facts.{made_by}
use Rattle.sig_history.specs.Owed.{Sum, stream_named}
use Rattle.sig_history.specs.Whole.{IsWhole}

-- the URI is that of a type that transmitters publish, and the receiver named it, where it named any (OpenID Shared Signals
-- Framework 1.0, section 8.1.1: `events_delivered` are those that are supported and requested)
pub record IsDelivered (requested : Option (List (List ℕ))) (uri : List ℕ) : Type 0 where
  pub type : EventType
  pub supported : Contains published_types type
  pub spelled : uri_of_type type ≡ uri
  pub wanted : IfSome requested (λ uris. Contains uris uri)

-- simple subjects match where they are equal, complex ones where no part of one differs from the other's part of that name
-- (section 8.1.3.1)
abbrev pub Matches : Subject → Subject → Type 0
Matches (subject.Simple a) (subject.Simple b) = a ≡ b
Matches (subject.Simple a) (subject.Complex ys) = ⊥
Matches (subject.Complex xs) (subject.Simple b) = ⊥
Matches (subject.Complex xs) (subject.Complex ys) =
    (m : Member) (other : Simple) → Contains xs m → part_named m.name ys ≡ Some other → m.simple ≡ other

-- a stream has each subject that wasn't removed, where it has all by default, and each that matches one that was added,
-- where it has none (sections 7.1 and 8.1.3)
abbrev pub Has : Defaults → List Subject → Subject → Type 0
Has defaults.All removed subject = Contains removed subject → ⊥
Has defaults.None added subject = (one : Subject) × Contains added one × Matches subject one

-- news for which a stream is due a token
pub record IsDue (n : News) (s : Stream) : Type 0 where
  pub on : (s.status ≡ status.Disabled) → ⊥
  pub delivered : IsDelivered s.conf.requested (uri_of n.event)
  pub subject : Has s.conf.defaults s.listed n.subject

-- a fact makes a token for the stream of a name
abbrev pub MakesTokenFor : Sum → Fact → List ℕ → Type 0
MakesTokenFor sum f name = (t : Made) × Contains (made_by sum.parts f) t × (t.stream ≡ name)

-- a stream of this name stands and is due a token
abbrev pub StandsDue : Sum → News → List ℕ → Type 0
StandsDue sum n name = (s : Stream) × (stream_named name sum.parts.streams ≡ Some s) × IsDue n s

abbrev pub TokensAreMadeWhereDue : Type 0
TokensAreMadeWhereDue = (sum : Sum) (id : List ℕ) (n : News) (time : ℕ) (name : List ℕ) → IsWhole sum
    → MakesTokenFor sum (Published id n time) name ↔ StandsDue sum n name
