-- Laws over what requests ask and what responses tell.
use Rattle.std.specs.Prelude.{◌≡◌, ◌≢◌, ◌↔◌, ◌≤◌, ℕ, List, [], true, Bool, length, Contains, Option, Some, is_some, IfSome, IsUtf8, Ok}
use Rattle.serde_json.specs.Data.{Data}
use Rattle.sig_json.specs.Json.{json_of}
use Rattle.sig_json.specs.declared.limits.TheConstants.{REQUEST_BODY_BYTES}
use Rattle.sig_http.specs.Answering.{says_no_store}
use Rattle.sig_http.specs.declared.message.Request.{Request}
use Rattle.sig_http.specs.declared.message.Response.{Response}
use Rattle.sig_subject.specs.Written.{IsProperSubject}
use Rattle.sig_event.specs.News.{IsProperNews}
use Rattle.sig_terms.specs.declared.answer.Answer.{Answer}
use Rattle.sig_terms.specs.declared.answer.Answer.TheVariants as answer
use Rattle.sig_terms.specs.declared.call.Call.{Call}
use Rattle.sig_terms.specs.declared.call.Call.TheVariants.{Metadata, Create, ReadAll, Read, Patch, Put, Delete, GetStatus, SetStatus, Add, Remove, Verify, Poll, Publish, OperatorStatus, OperatorDelete, Streams, Refused, Figures, Deliver, Hand, Settle}
use Rattle.sig_terms.specs.declared.rules.Client.{Client}
use Rattle.sig_terms.specs.declared.rules.Rules.{Rules}
use Rattle.sig_terms.specs.declared.token.Token.{Token}
use Rattle.sig_terms.specs.declared.want.Want.{Want}
use Rattle.sig_stream.specs.Wants.{want_of}
use Rattle.sig_txroutes.specs.Answers.{reply}
use Rattle.sig_txroutes.specs.Calls.{by_route, call_of}
use Rattle.sig_txroutes.specs.Routes.{is_at, method_of}
use Rattle.sig_txroutes.specs.declared.route.Route.{Route}

-- ---- the route decides

-- the request is for this route, whose bearer, query and body it has, and that body isn't too long
pub record IsFor (request : Request) (rules : Rules) (asked : Call) : Type 0 where
  pub route : Route
  pub method : request.method ≡ method_of route
  pub path : is_at request.path route ≡ true
  pub asks : by_route route request rules ≡ Ok asked
  pub fits : length request.body ≤ REQUEST_BODY_BYTES

-- a request asks for something exactly where it is for a route that reads this of it
abbrev pub RoutesExactly : Type 0
RoutesExactly = (request : Request) (rules : Rules) (asked : Call) → (call_of request rules ≡ Ok asked) ↔ IsFor request rules asked

-- ---- who asks

-- whose call it is: anybody's, that of the client with this name, or the operator's; the transmitter makes the others itself
pub data Asker : Type 0 where
  Anybody : Asker
  Named : List ℕ → Asker
  Operator : Asker
  Itself : Asker

abbrev pub asker_of : Call → Asker
asker_of Metadata = Anybody
asker_of (Create client want) = Named client
asker_of (ReadAll client) = Named client
asker_of (Read client stream) = Named client
asker_of (Patch client stream want) = Named client
asker_of (Put client stream want) = Named client
asker_of (Delete client stream) = Named client
asker_of (GetStatus client stream) = Named client
asker_of (SetStatus client stream status reason) = Named client
asker_of (Add client stream subject) = Named client
asker_of (Remove client stream subject) = Named client
asker_of (Verify client stream state) = Named client
asker_of (Poll client stream ask) = Named client
asker_of (Publish id news) = Operator
asker_of (OperatorStatus stream status reason) = Operator
asker_of (OperatorDelete stream) = Operator
asker_of (Streams from) = Operator
asker_of (Refused from) = Operator
asker_of Figures = Operator
asker_of (Deliver stream) = Operator
asker_of (Hand streams) = Itself
asker_of (Settle stream number outcome) = Itself

-- the client of this name has the bearer that is shown
abbrev pub HasBearer : Rules → Option (List ℕ) → List ℕ → Type 0
HasBearer rules shown name = (c : Client) × Contains rules.clients c × (c.name ≡ name) × (shown ≡ Some c.bearer)

-- under these rules the bearer that is shown may ask as this one
abbrev pub MayAskAs : Rules → Option (List ℕ) → Asker → Type 0
MayAskAs rules shown Anybody = Unit {0}
MayAskAs rules shown (Named name) = HasBearer rules shown name
MayAskAs rules shown Operator = shown ≡ Some rules.operator
MayAskAs rules shown Itself = ⊥

-- whoever asks shows a bearer of its own: a client's call has that client's, and the operator's call the operator's
abbrev pub BearersDecide : Type 0
BearersDecide = (request : Request) (rules : Rules) (asked : Call) → call_of request rules ≡ Ok asked → MayAskAs rules request.bearer (asker_of asked)

-- each bearer is one client's, or the operator's
pub record AreApart (rules : Rules) : Type 0 where
  pub clients : (c d : Client) → Contains rules.clients c → Contains rules.clients d → c.bearer ≡ d.bearer → c.name ≡ d.name
  pub operator : (c : Client) → Contains rules.clients c → c.bearer ≡ rules.operator → ⊥

-- the call is anybody's, or this one's
abbrev pub IsOf : Asker → Asker → Type 0
IsOf one Anybody = Unit {0}
IsOf one (Named name) = Named name ≡ one
IsOf one Operator = Operator ≡ one
IsOf one Itself = ⊥

-- where each bearer is one's, that of a client makes calls of this client alone
abbrev pub ClientsAskForThemselves : Type 0
ClientsAskForThemselves = (request : Request) (rules : Rules) (c : Client) (asked : Call) → AreApart rules → Contains rules.clients c
    → request.bearer ≡ Some c.bearer → call_of request rules ≡ Ok asked → IsOf (Named c.name) (asker_of asked)

-- and that of the operator makes no client's
abbrev pub OperatorsAskForThemselves : Type 0
OperatorsAskForThemselves = (request : Request) (rules : Rules) (asked : Call) → AreApart rules
    → request.bearer ≡ Some rules.operator → call_of request rules ≡ Ok asked → IsOf Operator (asker_of asked)

-- ---- what is asked

-- the want is the one that the body spells
abbrev pub IsWanted : Request → Rules → Want → Type 0
IsWanted request rules want = (d : Data) × (json_of request.body ≡ Some d) × (want_of (is_some rules.gateway) d ≡ Ok want)

-- a call as requests make it: its want is the body's, its subject and news are proper, and its texts are in UTF-8 where a token says them
abbrev pub IsProperOf : Request → Rules → Call → Type 0
IsProperOf request rules Metadata = Unit {0}
IsProperOf request rules (Create client want) = IsWanted request rules want
IsProperOf request rules (ReadAll client) = Unit {0}
IsProperOf request rules (Read client stream) = Unit {0}
IsProperOf request rules (Patch client stream want) = IsWanted request rules want
IsProperOf request rules (Put client stream want) = IsWanted request rules want
IsProperOf request rules (Delete client stream) = Unit {0}
IsProperOf request rules (GetStatus client stream) = Unit {0}
IsProperOf request rules (SetStatus client stream status reason) = IfSome reason IsUtf8
IsProperOf request rules (Add client stream subject) = IsProperSubject subject
IsProperOf request rules (Remove client stream subject) = IsProperSubject subject
IsProperOf request rules (Verify client stream state) = IfSome state IsUtf8
IsProperOf request rules (Poll client stream ask) = Unit {0}
IsProperOf request rules (Publish id news) = IsProperNews news
IsProperOf request rules (OperatorStatus stream status reason) = IfSome reason IsUtf8
IsProperOf request rules (OperatorDelete stream) = Unit {0}
IsProperOf request rules (Streams from) = Unit {0}
IsProperOf request rules (Refused from) = Unit {0}
IsProperOf request rules Figures = Unit {0}
IsProperOf request rules (Deliver stream) = Unit {0}
IsProperOf request rules (Hand streams) = ⊥
IsProperOf request rules (Settle stream number outcome) = ⊥

-- requests make such calls alone, and none that the transmitter makes itself
abbrev pub RequestsMakeProperCalls : Type 0
RequestsMakeProperCalls = (request : Request) (rules : Rules) (call : Call) → call_of request rules ≡ Ok call → IsProperOf request rules call

-- ---- what is told

-- the answer is a page of tokens
abbrev pub IsPage : Answer → Type 0
IsPage told = (tokens : List Token) × (more : Bool) × (told ≡ answer.Sets tokens more)

-- of the rules a response that is no page tells the issuer, the addresses and the default subjects alone: no bearer, no client
-- and no key
abbrev pub TellsNoSecrets : Type 0
TellsNoSecrets = (answer : Answer) (one other : Rules) → (IsPage answer → ⊥)
    → one.issuer ≡ other.issuer → one.base ≡ other.base → one.defaults ≡ other.defaults → reply answer one ≡ reply answer other

-- and a page rests on the key alone, by which its tokens are signed
abbrev pub PagesRestOnTheKey : Type 0
PagesRestOnTheKey = (tokens : List Token) (more : Bool) (one other : Rules) → one.key ≡ other.key
    → reply (answer.Sets tokens more) one ≡ reply (answer.Sets tokens more) other

-- no cache may keep a response, but that which tells what the transmitter offers (RFC 9111, section 5.2.2.5)
abbrev pub NoCacheKeeps : Type 0
NoCacheKeeps = (told : Answer) (rules : Rules) → told ≢ answer.Meta → says_no_store (reply told rules) ≡ true

-- a response of status 204 has no body (RFC 9110, section 15.3.5)
abbrev pub IsFitting : Response → Type 0
IsFitting response = response.status ≡ 204 → response.body ≡ []

abbrev pub NoContentIsEmpty : Type 0
NoContentIsEmpty = (answer : Answer) (rules : Rules) → IsFitting (reply answer rules)
