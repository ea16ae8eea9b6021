-- What the answers say that give what was asked for (OpenID Shared Signals Framework 1.0, section 8; RFC 8935, section 2; RFC
-- 8936, section 2.4).
use Rattle.std.specs.Prelude.{◌≡◌, ◌⊎◌, ◌↔◌, ◌+◌, ◌-◌, ◌<◌, ◌≤◌, ℕ, List, [], ◌∷◌, ◌++◌, Bool, true, false, Option, Some, None, All, Contains, IfSome, flat_map, length, map, min, option_map, unwrap_or, ⊤}
use Rattle.std.specs.List.{slice_get}
use Rattle.sig_json.specs.declared.limits.TheConstants.{STREAMS_PER_CLIENT, TOKENS_PER_PAGE}
use Rattle.sig_subject.specs.declared.subject.Subject.{Subject}
use Rattle.sig_event.specs.News.{is_same_news}
use Rattle.sig_event.specs.declared.event.Event.TheVariants as event
use Rattle.sig_event.specs.declared.news.News.{News}
use Rattle.sig_event.specs.declared.status.Status.{Status}
use Rattle.sig_terms.specs.Deliveries.{is_push}
use Rattle.sig_terms.specs.declared.call.Call.{Call}
use Rattle.sig_terms.specs.declared.call.Call.TheVariants.{Metadata, Create, ReadAll, Delete, Add, Remove, Verify, Poll, Publish, OperatorDelete, Streams, Refused, Figures, Deliver, Hand, Settle}
use Rattle.sig_terms.specs.declared.call.Outcome.{Outcome}
use Rattle.sig_terms.specs.declared.call.Outcome.TheVariants as outcome
use Rattle.sig_terms.specs.declared.call.PollAsk.{PollAsk}
use Rattle.sig_terms.specs.declared.configuration.StreamConf.{StreamConf}
use Rattle.sig_terms.specs.declared.fact.Fact.{Fact}
use Rattle.sig_terms.specs.declared.refused_token.RefusedToken.{RefusedToken}
use Rattle.sig_terms.specs.declared.rules.Client.{Client}
use Rattle.sig_terms.specs.declared.rules.Rules.{Rules}
use Rattle.sig_terms.specs.declared.standing.Standing.{Standing}
use Rattle.sig_terms.specs.declared.token.Issued.{Issued}
use Rattle.sig_terms.specs.declared.token.Token.{Token}
use Rattle.sig_terms.specs.declared.want.Defaults.{Defaults}
use Rattle.sig_terms.specs.declared.want.Defaults.TheVariants as defaults
use Rattle.sig_terms.specs.declared.want.Delivery.TheVariants as delivery
use Rattle.sig_terms.specs.declared.want.Want.{Want}
use Rattle.sig_history.specs.Owed.{Sum, offered_by, owed_by, stream_named}
use Rattle.sig_history.specs.Sound.{has_number}
use Rattle.sig_history.specs.Streams.{Made, Publication, Stream, made_in, publication_of, stands, streams_of}
use Rattle.sig_calls.specs.Creating.{client_of}
use Rattle.sig_calls.specs.Handing.{first_names, pushed_by}
use Rattle.sig_calls.specs.Speaking.{HasConf, HasState}
use Rattle.sig_calls.specs.declared.limits.TheConstants.{REFUSED_PER_PAGE, STREAMS_PER_PAGE}
use Rattle.sig_fact_laws.specs.Due.{Has, Matches}
use Rattle.sig_answer_laws.specs.Tokens.{IsOn, IsOwn, OwesToken, after}

-- the transmitter's own description was asked for, and nothing changes
pub record SaysMeta (call : Call) (change : Option Fact) : Type 0 where
  pub asked : call ≡ Metadata
  pub same : change ≡ None

-- a new stream of a client of these rules stands with this configuration, which is what was wanted of it
pub record SaysMade (rules : Rules) (sum : Sum) (call : Call) (change : Option Fact) (conf : StreamConf) : Type 0 where
  pub name : List ℕ
  pub want : Want
  pub client : Client
  pub asked : call ≡ Create name want
  pub known : client_of name rules.clients ≡ Some client
  pub few : streams_of client.name sum.parts.streams < STREAMS_PER_CLIENT
  pub fresh : stands conf.stream sum.parts.streams ≡ false
  pub stands : HasConf (after sum change) conf
  pub requested : conf.requested ≡ want.requested
  pub delivery : conf.delivery ≡ unwrap_or want.delivery delivery.Poll
  pub description : conf.description ≡ want.description
  pub iss : conf.iss ≡ rules.issuer
  pub aud : conf.aud ≡ client.aud

-- the client's stream stands afterwards with this configuration
pub record SaysConf (sum : Sum) (call : Call) (change : Option Fact) (conf : StreamConf) : Type 0 where
  pub client : List ℕ
  pub asked : IsOn call client conf.stream
  pub own : (s : Stream) × IsOwn (after sum change) client conf.stream s × (s.conf ≡ conf)

-- the configurations of all streams that stand of a client, and of no other
pub record SaysConfs (sum : Sum) (call : Call) (change : Option Fact) (confs : List StreamConf) : Type 0 where
  pub client : List ℕ
  pub asked : call ≡ ReadAll client
  pub same : change ≡ None
  pub each : (conf : StreamConf) → Contains confs conf ↔ ((s : Stream) × IsOwn sum client conf.stream s × (s.conf ≡ conf))

-- the call deletes the stream: a client its own, or the operator one of any client
abbrev pub Deletes : Call → List ℕ → Type 0
Deletes call stream = ((client : List ℕ) × (call ≡ Delete client stream)) ⊎ (call ≡ OperatorDelete stream)

-- the stream stands no longer, and owes nothing
pub record SaysGone (sum : Sum) (call : Call) (change : Option Fact) : Type 0 where
  pub stream : List ℕ
  pub asked : Deletes call stream
  pub gone : stands stream (after sum change).parts.streams ≡ false
  pub nothing : owed_by (after sum change) stream ≡ []

-- the stream stands with this status, set for this reason; the token that tells its receiver so, where there is one, is owed
pub record SaysState (sum : Sum) (change : Option Fact) (stream : List ℕ) (status : Status) (reason : Option (List ℕ)) (token : Option ℕ) : Type 0 where
  pub stands : HasState (after sum change) stream status reason
  pub told : IfSome token (λ number. OwesToken (after sum change) stream number (event.StreamUpdated status reason))

-- the subject is one of the stream's: a publication about it is due there, where the stream isn't disabled and delivers the
-- type
pub record SaysAdded (sum : Sum) (call : Call) (change : Option Fact) : Type 0 where
  pub client : List ℕ
  pub stream : List ℕ
  pub subject : Subject
  pub asked : call ≡ Add client stream subject
  pub has : (s : Stream) × (stream_named stream (after sum change).parts.streams ≡ Some s) × Has s.conf.defaults s.listed subject

-- where a stream has a subject still that was removed, it has none by default, and another of those that were added matches it
abbrev pub HasByAnother : Defaults → List Subject → Subject → Type 0
HasByAnother defaults.All listed subject = ⊥
HasByAnother defaults.None listed subject = (one : Subject) × Contains listed one × Matches subject one × (one ≡ subject → ⊥)

pub record SaysRemoved (sum : Sum) (call : Call) (change : Option Fact) : Type 0 where
  pub client : List ℕ
  pub stream : List ℕ
  pub subject : Subject
  pub asked : call ≡ Remove client stream subject
  pub hasnt : (s : Stream) × (stream_named stream (after sum change).parts.streams ≡ Some s)
      × (Has s.conf.defaults s.listed subject → HasByAnother s.conf.defaults s.listed subject)

-- the stream owes a verification of this number with the state that was asked for
pub record SaysAsked (sum : Sum) (call : Call) (change : Option Fact) (stream : List ℕ) (number : ℕ) : Type 0 where
  pub client : List ℕ
  pub state : Option (List ℕ)
  pub asked : call ≡ Verify client stream state
  pub told : OwesToken (after sum change) stream number (event.Verification state)

-- the first tokens that the stream offers afterwards, in order, as many as were asked for and a page has; `more` says exactly
-- whether others follow, and then the page is full
pub record SaysSets (sum : Sum) (call : Call) (change : Option Fact) (tokens : List Token) (more : Bool) : Type 0 where
  pub client : List ℕ
  pub stream : List ℕ
  pub ask : PollAsk
  pub rest : List Made
  pub asked : call ≡ Poll client stream ask
  pub first : map made_in tokens ++ rest ≡ offered_by (after sum change) stream
  pub others : (more ≡ true) ↔ (0 < length rest)
  pub within : length tokens ≤ min (unwrap_or ask.max TOKENS_PER_PAGE) TOKENS_PER_PAGE
  pub full : more ≡ true → length tokens ≡ min (unwrap_or ask.max TOKENS_PER_PAGE) TOKENS_PER_PAGE

-- a token with this number is owed by the stream that it names, and tells these news
abbrev pub OwesIssued : Sum → News → Issued → Type 0
OwesIssued sum n i = OwesToken sum i.stream i.number n.event

-- the publication stands under its name with these tokens; where it is the first of the name, they are owed
pub record SaysPublished (sum : Sum) (call : Call) (change : Option Fact) (store_id : List ℕ) (tokens : List Issued) : Type 0 where
  pub id : List ℕ
  pub news : News
  pub publication : Publication
  pub asked : call ≡ Publish id news
  pub store : store_id ≡ sum.parts.store_id
  pub found : publication_of id (after sum change).parts.published ≡ Some publication
  pub same : is_same_news publication.news news ≡ true
  pub issued : publication.issued ≡ tokens
  pub owed : IfSome change (λ f. All (OwesIssued (after sum change) news) tokens)

-- the stream stands, and tokens are sent to its receiver
pub record SaysDelivering (sum : Sum) (call : Call) (change : Option Fact) (stream : List ℕ) : Type 0 where
  pub asked : call ≡ Deliver stream
  pub same : change ≡ None
  pub push : (s : Stream) × (stream_named stream sum.parts.streams ≡ Some s) × (is_push s.conf.delivery ≡ true)

-- the first tokens that the named push streams offer, stream by stream and each stream once; a page that isn't full has them
-- all
pub record SaysHanded (sum : Sum) (call : Call) (change : Option Fact) (tokens : List Token) : Type 0 where
  pub streams : List (List ℕ)
  pub rest : List Token
  pub asked : call ≡ Hand streams
  pub same : change ≡ None
  pub first : tokens ++ rest ≡ flat_map (pushed_by sum) (first_names [] streams)
  pub within : length tokens ≤ TOKENS_PER_PAGE
  pub full : 0 < length rest → length tokens ≡ TOKENS_PER_PAGE

-- one token was owed, and is no longer; or nothing changes, since it isn't owed or the answer to it settles nothing
pub record SaysSettled (sum : Sum) (call : Call) (change : Option Fact) (count : ℕ) : Type 0 where
  pub stream : List ℕ
  pub number : ℕ
  pub said : Outcome
  pub asked : call ≡ Settle stream number said
  pub settled : ((count ≡ 1) × (has_number number (owed_by sum stream) ≡ true) × (has_number number (owed_by (after sum change) stream) ≡ false))
      ⊎ ((count ≡ 0) × (change ≡ None) × ((has_number number (owed_by sum stream) ≡ false) ⊎ (said ≡ outcome.Keep)))

-- how a stream stands is told: its name, its status, how many tokens it owes and when the first of them was made, and how many
-- were made for it
pub record TellsOf (sum : Sum) (s : Stream) (told : Standing) : Type 0 where
  pub name : told.stream ≡ s.conf.stream
  pub status : told.status ≡ s.status
  pub owed : told.owed ≡ length (owed_by sum s.conf.stream)
  pub oldest : told.oldest ≡ option_map (λ (t : Made). t.claims.iat) (slice_get (owed_by sum s.conf.stream) 0)
  pub made : told.made ≡ s.made

-- of each of some streams it is told in its place, and of no other
abbrev pub TellsOfEach : Sum → List Stream → List Standing → Type 0
TellsOfEach sum [] [] = ⊤
TellsOfEach sum [] (t ∷ ts) = ⊥
TellsOfEach sum (s ∷ ss) [] = ⊥
TellsOfEach sum (s ∷ ss) (t ∷ ts) = TellsOf sum s t × TellsOfEach sum ss ts

-- the streams of all clients, in order of client name and number, stand before the page, in it or after it; the page begins at
-- the place that was asked for, where there are so many, and ends at the one that is told; one that isn't full is the last
pub record SaysStandings (sum : Sum) (call : Call) (change : Option Fact) (next : ℕ) (standings : List Standing) : Type 0 where
  pub from : ℕ
  pub before : List Stream
  pub listed : List Stream
  pub rest : List Stream
  pub asked : call ≡ Streams from
  pub same : change ≡ None
  pub all : before ++ (listed ++ rest) ≡ sum.parts.streams
  pub first : length before ≡ min from (length sum.parts.streams)
  pub last : length before + length listed ≡ next
  pub each : TellsOfEach sum listed standings
  pub within : length listed ≤ STREAMS_PER_PAGE
  pub full : 0 < length rest → length listed ≡ STREAMS_PER_PAGE

-- the reported tokens that are kept, in the order in which they were reported, stand before the page, in it or after it; the page
-- begins at the place that was asked for among all that were ever reported, or with the first one that is kept where that place is
-- before it, and ends at the place that is told; one that isn't full is the last
pub record SaysRefused (sum : Sum) (call : Call) (change : Option Fact) (next : ℕ) (tokens : List RefusedToken) : Type 0 where
  pub from : ℕ
  pub before : List RefusedToken
  pub rest : List RefusedToken
  pub asked : call ≡ Refused from
  pub same : change ≡ None
  pub all : before ++ (tokens ++ rest) ≡ sum.refused.kept
  pub first : length before ≡ min (from - sum.refused.before) (length sum.refused.kept)
  pub last : sum.refused.before + (length before + length tokens) ≡ next
  pub within : length tokens ≤ REFUSED_PER_PAGE
  pub full : 0 < length rest → length tokens ≡ REFUSED_PER_PAGE

-- all streams of all clients are told of, each once and in order, and so many publications stand
pub record SaysFigures (sum : Sum) (call : Call) (change : Option Fact) (publications : ℕ) (standings : List Standing) : Type 0 where
  pub asked : call ≡ Figures
  pub same : change ≡ None
  pub published : publications ≡ length sum.parts.published
  pub each : TellsOfEach sum sum.parts.streams standings
