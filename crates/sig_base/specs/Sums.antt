-- What a history came to as a base, which has all of it but the store's identifier.
use Rattle.std.specs.Prelude.{◌≡◌, ℕ, List, [], ◌∷◌, map, ⊤}
use Rattle.std.specs.List.{AllByRecursion}
use Rattle.sig_event.specs.declared.event.Event.{Event}
use Rattle.sig_event.specs.declared.event.Event.TheVariants as event
use Rattle.sig_event.specs.News.{news}
use Rattle.sig_terms.specs.declared.configuration.StreamConf.{StreamConf}
use Rattle.sig_history.specs.Streams.{Count, Made, Publication, Stream, claims_for}
use Rattle.sig_history.specs.Owed.{Sum}
use Rattle.sig_history.specs.Refused.{Refusals}
use Rattle.sig_history.specs.Whole.{IsWhole}
use Rattle.sig_base.specs.declared.base.Base.{Base}
use Rattle.sig_base.specs.declared.base.BasePublication.{BasePublication}
use Rattle.sig_base.specs.declared.base.BaseRefusals.{BaseRefusals}
use Rattle.sig_base.specs.declared.base.BaseStream.{BaseStream}
use Rattle.sig_base.specs.declared.base.BaseToken.{BaseToken}
use Rattle.sig_base.specs.declared.base.ClientCount.{ClientCount}

-- the event that a token tells
abbrev pub event_in : List Event → Event
event_in [] = event.Other []
event_in (e ∷ es) = e

-- what is kept of a token that is owed
abbrev pub base_token : Made → BaseToken
base_token t = record { number = t.number; iat = t.claims.iat; news = news t.claims.subject (event_in t.claims.events) }

-- what is kept of a stream and of what it owes
abbrev pub base_stream : Stream → List Made → BaseStream
base_stream s owed = record {
  conf = s.conf;
  status = s.status;
  reason = s.reason;
  listed = s.listed;
  asked = s.asked;
  made = s.made;
  owed = map base_token owed;
}

-- each stream with the tokens beside it
abbrev pub base_streams : List Stream → List (List Made) → List BaseStream
base_streams [] owed = []
base_streams (s ∷ ss) [] = []
base_streams (s ∷ ss) (o ∷ os) = base_stream s o ∷ base_streams ss os

abbrev pub base_client : Count → ClientCount
base_client c = record { client = c.client; created = c.count }

abbrev pub base_publication : Publication → BasePublication
base_publication p = record { id = p.id; news = p.news; tokens = p.issued }

abbrev pub base_refusals : Refusals → BaseRefusals
base_refusals r = record { before = r.before; kept = r.kept }

abbrev pub base_of : Sum → Base
base_of sum = record {
  clients = map base_client sum.parts.created;
  streams = base_streams sum.parts.streams sum.owed;
  publications = map base_publication sum.parts.published;
  refusals = base_refusals sum.refused;
}

-- ---- what holds of all that a history comes to

-- the token of a stream with this configuration that tells what is kept of it
abbrev pub owed_token : List ℕ → StreamConf → BaseToken → Made
owed_token store_id conf t = record { stream = conf.stream; number = t.number; claims = claims_for store_id conf t.number t.iat t.news }

-- it says no more than that
abbrev pub IsOwedToken : List ℕ → StreamConf → Made → Type 0
IsOwedToken store_id conf t = t ≡ owed_token store_id conf (base_token t)

-- and so does each token that stands beside a stream
abbrev pub AreOwedTokens : List ℕ → List Stream → List (List Made) → Type 0
AreOwedTokens store_id [] owed = ⊤
AreOwedTokens store_id (s ∷ ss) [] = ⊤
AreOwedTokens store_id (s ∷ ss) (o ∷ os) = AllByRecursion (IsOwedToken store_id s.conf) o × AreOwedTokens store_id ss os

-- streams stand as those of a history do, and their tokens are as they make them
pub record IsMade (sum : Sum) : Type 0 where
  pub whole : IsWhole sum
  pub tokens : AreOwedTokens sum.parts.store_id sum.parts.streams sum.owed
