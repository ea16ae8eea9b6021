-- Laws over what requests ask and what responses tell.
use Rattle.std.specs.Prelude.{◌≡◌, ◌≤◌, ◌↔◌, ℕ, List, Contains, true, false, Option, Some, None, IfSome, Ok, codes, ⊤}
use Rattle.sig_json.specs.declared.limits.TheConstants.{LAST_NUMBER}
use Rattle.sig_http.specs.Answering.{says_no_store}
use Rattle.sig_http.specs.Written.{response_read}
use Rattle.sig_http.specs.declared.message.Request.{Request}
use Rattle.sig_subject.specs.Written.{IsProperSubject}
use Rattle.sig_terms.specs.declared.call.Outcome.TheVariants as outcome
use Rattle.sig_set.specs.declared.refusal.Code.{Code}
use Rattle.sig_set.specs.declared.refusal.Spot.{Spot}
use Rattle.sig_delivery.specs.Outcomes.{outcome_of, settled_by}
use Rattle.sig_rxnode.specs.declared.answer.RxAnswer.{RxAnswer}
use Rattle.sig_rxnode.specs.declared.answer.RxAnswer.TheVariants.{Accepted, Seen, Refused}
use Rattle.sig_rxnode.specs.declared.call.RxCall.{RxCall}
use Rattle.sig_rxnode.specs.declared.call.RxCall.TheVariants.{Token, Verdict, Rows, Figures}
use Rattle.sig_rxnode.specs.declared.rules.Principal.{Principal}
use Rattle.sig_rxnode.specs.declared.rules.RxRules.{RxRules}
use Rattle.sig_rxroutes.specs.Answers.{reply}
use Rattle.sig_rxroutes.specs.Calls.{by_route, call_of, token_call}
use Rattle.sig_rxroutes.specs.Routes.{method_of, path_of}
use Rattle.sig_rxroutes.specs.declared.route.RxRoute.{RxRoute}

-- ---- the route decides

-- the request is for this route, whose bearer, query and body it has
pub record IsFor (request : Request) (rules : RxRules) (asked : RxCall) : Type 0 where
  pub route : RxRoute
  pub method : request.method ≡ method_of route
  pub path : request.path ≡ path_of route
  pub asks : by_route route request rules ≡ Ok asked

-- a request makes a call exactly where it is for a route that reads this of it
abbrev pub RoutesExactly : Type 0
RoutesExactly = (request : Request) (rules : RxRules) (asked : RxCall) → (call_of request rules ≡ Ok asked) ↔ IsFor request rules asked

-- ---- who asks

-- a principal that may speak for this issuer has the bearer that is shown
abbrev pub HasBearer : RxRules → Option (List ℕ) → List ℕ → Type 0
HasBearer rules shown iss = (p : Principal) × Contains rules.principals p × (p.iss ≡ iss) × (shown ≡ Some p.bearer)

-- under these rules the bearer that is shown may make this call: a push for an issuer is its principal's, and all else the reader's
abbrev pub MayMake : RxRules → Option (List ℕ) → RxCall → Type 0
MayMake rules shown (Token principal named bytes) = IfSome principal (HasBearer rules shown)
MayMake rules shown (Verdict subject) = shown ≡ Some rules.reader
MayMake rules shown (Rows from) = shown ≡ Some rules.reader
MayMake rules shown Figures = shown ≡ Some rules.reader

abbrev pub BearersDecide : Type 0
BearersDecide = (request : Request) (rules : RxRules) (asked : RxCall) → call_of request rules ≡ Ok asked → MayMake rules request.bearer asked

-- principals with one bearer speak for one issuer
abbrev pub AreApart : RxRules → Type 0
AreApart rules = (p q : Principal) → Contains rules.principals p → Contains rules.principals q → p.bearer ≡ q.bearer → p.iss ≡ q.iss

-- a push is for this issuer
abbrev pub SpeaksFor : List ℕ → RxCall → Type 0
SpeaksFor iss (Token principal named bytes) = principal ≡ Some iss
SpeaksFor iss (Verdict subject) = ⊤
SpeaksFor iss (Rows from) = ⊤
SpeaksFor iss Figures = ⊤

-- then a principal's bearer pushes for its issuer, and for no other
abbrev pub PrincipalsSpeakForThemselves : Type 0
PrincipalsSpeakForThemselves = (request : Request) (rules : RxRules) (p : Principal) (asked : RxCall) → AreApart rules → Contains rules.principals p
    → request.bearer ≡ Some p.bearer → call_of request rules ≡ Ok asked → SpeaksFor p.iss asked

-- a push makes its call whatever bearer it shows
abbrev pub PushesAreRead : Type 0
PushesAreRead = (request : Request) (rules : RxRules) → request.method ≡ codes "POST" → request.path ≡ codes "/push"
    → call_of request rules ≡ Ok (token_call request rules)

-- ---- what is asked

-- a call as requests make it: a token is the body, which no poll listed, a subject is proper, and a place is up to LAST_NUMBER
abbrev pub IsProperOf : Request → RxCall → Type 0
IsProperOf request (Token principal named bytes) = (named ≡ None) × (bytes ≡ request.body)
IsProperOf request (Verdict subject) = IsProperSubject subject
IsProperOf request (Rows from) = from ≤ LAST_NUMBER
IsProperOf request Figures = ⊤

abbrev pub RequestsMakeProperCalls : Type 0
RequestsMakeProperCalls = (request : Request) (rules : RxRules) (asked : RxCall) → call_of request rules ≡ Ok asked → IsProperOf request asked

-- ---- what is told

abbrev pub LeavesLinksOpen : Type 0
LeavesLinksOpen = (answer : RxAnswer) → (reply answer).close ≡ false

-- no cache may keep one (RFC 9111, section 5.2.2.5)
abbrev pub NoCacheKeeps : Type 0
NoCacheKeeps = (answer : RxAnswer) → says_no_store (reply answer) ≡ true

-- what a response settles at the transmitter that pushed: a valid token is taken, new or not, and a refused one settled by its code
pub record SettlesPushes : Type 0 where
  pub accepted : outcome_of (response_read (reply Accepted)) ≡ outcome.Accepted
  pub seen : outcome_of (response_read (reply Seen)) ≡ outcome.Accepted
  pub refused : (code : Code) (spot : Spot) → outcome_of (response_read (reply (Refused code spot))) ≡ settled_by code
