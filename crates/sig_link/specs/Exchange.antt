-- The requests of a link, what came of them, and what followed, in order.
use Rattle.std.specs.Prelude.{◌≡◌, ℕ, ◌+◌, ◌<◌, ◌==◌, Bool, true, false, ◌||◌, List, [], ◌∷◌, ◌++◌, All, length, Option, Some, None}
use Rattle.sig_json.specs.declared.limits.TheConstants.{REQUESTS_PER_LINK}
use Rattle.sig_http.specs.Message.{DecidesRequest, Whole}
use Rattle.sig_http.specs.declared.message.Request.{Request}
use Rattle.sig_http.specs.declared.message.Response.{Response}
use Rattle.sig_links.specs.Views.{SideView}
use Rattle.sig_link.specs.Answering.{IsResponse, text_of}
use Rattle.sig_link.specs.Course.{Comes, IsFollowed, own_turn}
use Rattle.sig_link.specs.Meaning.{Meaning}
use Rattle.sig_link.specs.declared.course.Course.{Course}

-- a request, what came of it, the response to that, and the turns that followed
pub record Exchange (Turn : Type 0) : Type 0 where
  pub request : Request
  pub course : Course Turn
  pub response : Response
  pub more : List Turn

-- ---- turns

-- the turns of a request: its own, and those that followed
abbrev pub turns_in : {Turn : Type 0} → Exchange Turn → List Turn
turns_in e = own_turn e.course ++ e.more

-- the turns of requests, in order
abbrev pub turns_of : {Turn : Type 0} → List (Exchange Turn) → List Turn
turns_of [] = []
turns_of (e ∷ es) = turns_in e ++ turns_of es

module _ {Rules Call Turn Told : Type 0} (m : Meaning Rules Call Turn Told) (rules : Rules) (link : ℕ) where
  -- what came of a request, the response to it, and then what followed, in which memory ran out or not
  pub record MakesTurns (e : Exchange Turn) (starved : Bool) (old new : SideView) : Type 0 where
    pub between : SideView
    pub comes : Comes m rules link e.request e.course old between
    pub responds : IsResponse m rules e.course e.response
    pub follows : IsFollowed m rules e.course e.more starved between new

  -- one request did so after another, and memory ran out in none
  abbrev pub AreMade : SideView → List (Exchange Turn) → SideView → Type 0
  AreMade old [] new = new ≡ old
  AreMade old (e ∷ es) new = (between : SideView) × MakesTurns e false old between × AreMade between es new

-- ---- texts

-- the link closes after a response: the request wants it, or it is the last that a link may have
abbrev pub closes_after : ℕ → Request → Bool
closes_after before request = request.close || ((before + 1) == REQUESTS_PER_LINK)

-- the response to a request after so many others
abbrev pub text_in : {Turn : Type 0} → ℕ → Exchange Turn → List ℕ
text_in before e = text_of (closes_after before e.request) e.response

-- the responses to requests after so many others, in order
abbrev pub texts_from : {Turn : Type 0} → ℕ → List (Exchange Turn) → List ℕ
texts_from before [] = []
texts_from before (e ∷ es) = text_in before e ++ texts_from (before + 1) es

-- ---- requests

-- the bytes begin with this request, where they are told, and those after it are left
abbrev pub IsRead : Option (List ℕ) → Request → Option (List ℕ) → Type 0
IsRead None request new = Unit {0}
IsRead (Some bytes) request None = ⊥
IsRead (Some bytes) request (Some rest) = DecidesRequest bytes (Whole request rest)

-- the requests stand in the bytes one after the other, and those bytes are left
abbrev pub StandIn : {Turn : Type 0} → List ℕ → List (Exchange Turn) → List ℕ → Type 0
StandIn bytes [] rest = rest ≡ bytes
StandIn bytes (e ∷ es) rest = (more : List ℕ) × DecidesRequest bytes (Whole e.request more) × StandIn more es rest

abbrev pub AreRead : {Turn : Type 0} → Option (List ℕ) → List (Exchange Turn) → Option (List ℕ) → Type 0
AreRead None es new = Unit {0}
AreRead (Some bytes) es None = ⊥
AreRead (Some bytes) es (Some rest) = StandIn bytes es rest

-- ---- whether the link goes on

-- no request asks for closing
abbrev pub StayOpen : {Turn : Type 0} → List (Exchange Turn) → Type 0
StayOpen es = All (λ e. e.request.close ≡ false) es

-- none does, and there may be a further one
abbrev pub GoesOn : {Turn : Type 0} → List (Exchange Turn) → Type 0
GoesOn es = (length es < REQUESTS_PER_LINK) × StayOpen es

-- the last one does, and no other
abbrev pub CloseAtLast : {Turn : Type 0} → List (Exchange Turn) → Type 0
CloseAtLast {Turn} es = (before : List (Exchange Turn)) × (e : Exchange Turn) × (es ≡ before ++ e ∷ []) × GoesOn before × (e.request.close ≡ true)
