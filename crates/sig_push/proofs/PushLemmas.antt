-- What a push answers and does, by what its request was answered and did.
use Rattle.std.proofs.Common.{◌≡◌, ℕ, List, [], ◌++◌, Option, Some, None, IsSomeAnd, option_map, false, Result, Ok, Err, inl, inr, refl, sym, ap, ◌∙◌, subst, append-nil}
use Rattle.sig_dial.specs.Asked as dialled
use Rattle.sig_dial.specs.Exchanged.{Decides}
use Rattle.sig_dial.specs.declared.fault.AskFault.{AskFault}
use Rattle.sig_dial.specs.declared.fault.AskFault.TheVariants as asked
use Rattle.sig_delivery.specs.Pushes.{push_kind, push_of}
use Rattle.sig_http.specs.Spelling.{request_spelling}
use Rattle.sig_http.specs.declared.message.Request.{Request}
use Rattle.sig_http.specs.declared.message.Response.{Response}
use Rattle.sig_links.specs.Told.{LinkPlan, Sent}
use Rattle.sig_outside.specs.declared.place.Place.{Place}
use Rattle.sig_terms.specs.declared.call.Outcome.{Outcome}
use Rattle.sig_terms.specs.declared.endpoint.Endpoint.{Endpoint}
use Rattle.sig_terms.specs.declared.rules.Rules.{Rules}
use Rattle.sig_terms.specs.declared.token.Token.{Token}
use Rattle.sig_push.specs.Targets.{place_by, push_text}
use Rattle.sig_push.specs.Pushed.{Counts, DialsNone, EndsOver, Follows, Hears, IsHeard, IsPushed, IsSent, IsWritten, Sends, address_of}
use Rattle.sig_push.specs.declared.fault.PushFault.{PushFault}

written_as : (text bytes : List ℕ) (answer : Result Response AskFault) (result : Result Outcome PushFault) → Follows answer result → dialled.IsWritten text answer bytes → IsWritten text result bytes
written_as text bytes (Ok response) result (inl e) w = rw e ([], sym w ∙ sym (append-nil bytes))
written_as text bytes (Ok response) result (inr e) w = rw e w
written_as text bytes (Err asked.Dial) result f w = absurd w
written_as text bytes (Err asked.Link) result f w = rw f w
written_as text bytes (Err asked.NoResponse) result f w = rw f w
written_as text bytes (Err asked.Memory) result f w = rw f w

-- no link was dialled where the dial failed
dials_none : (answer : Result Response AskFault) (result : Result Outcome PushFault) → Follows answer result → answer ≡ Err asked.Dial → DialsNone result
dials_none answer result f e = let g = subst (λ (a : Result Response AskFault). Follows a result) e f in rw g tt

link_as : (rules : Rules) (token : Token) (endpoint : Endpoint) (place : Place) (answer : Result Response AskFault) (result : Result Outcome PushFault)
    → token.endpoint ≡ Some endpoint → place_by rules.gateway endpoint ≡ Some place → Follows answer result
    → (link : Option Sent) → dialled.IsSent place (push_text rules token endpoint) answer link → IsSent rules token result link
link_as rules token endpoint place answer result has leads f None none = dials_none answer result f none
link_as rules token endpoint place answer result has leads f (Some sent) is =
    subst (λ (o : Option Endpoint). IsSomeAnd o (IsPushed rules token result sent)) (sym has)
    (record { place = is.0 ∙ sym (ap (option_map address_of) leads); bytes = written_as (push_text rules token endpoint) sent.bytes answer result f is.1 })

sends_as : (rules : Rules) (token : Token) (endpoint : Endpoint) (place : Place) (answer : Result Response AskFault) (result : Result Outcome PushFault)
    → token.endpoint ≡ Some endpoint → place_by rules.gateway endpoint ≡ Some place → Follows answer result
    → (old new : Option (List Sent)) → dialled.Sends place (push_text rules token endpoint) old new answer → Sends rules token old new result
sends_as rules token endpoint place answer result has leads f None new none = none
sends_as rules token endpoint place answer result has leads f (Some old) new s = (s.0, s.1, link_as rules token endpoint place answer result has leads f s.0 s.2)

-- the request was that of the push
pub sends_push : (rules : Rules) (token : Token) (endpoint : Endpoint) (place : Place) (request : Request) (answer : Result Response AskFault) (result : Result Outcome PushFault)
    → token.endpoint ≡ Some endpoint → place_by rules.gateway endpoint ≡ Some place → request ≡ push_of token rules.key → Follows answer result
    → (old new : Option (List Sent)) → dialled.Sends place (request_spelling endpoint.place request push_kind false) old new answer → Sends rules token old new result
sends_push rules token endpoint place request answer result has leads is f old new s =
    sends_as rules token endpoint place answer result has leads f old new
    (subst (λ (r : Request). dialled.Sends place (request_spelling endpoint.place r push_kind false) old new answer) is s)

ends_over : (bytes : List ℕ) (answer : Result Response AskFault) (result : Result Outcome PushFault) → Follows answer result → Decides bytes answer → EndsOver result bytes
ends_over bytes (Ok response) result (inl e) d = rw e tt
ends_over bytes (Ok response) result (inr e) d = rw e (response, d, refl)
ends_over bytes (Err asked.Dial) result f d = absurd d
ends_over bytes (Err asked.Link) result f d = rw f tt
ends_over bytes (Err asked.NoResponse) result f d = rw f d
ends_over bytes (Err asked.Memory) result f d = rw f tt

heard_as : (answer : Result Response AskFault) (result : Result Outcome PushFault) → Follows answer result
    → (link : Option LinkPlan) → dialled.IsHeard answer link → IsHeard result link
heard_as answer result f None none = dials_none answer result f none
heard_as answer result f (Some plan) d = ends_over plan.bytes answer result f d

pub hears_as : (answer : Result Response AskFault) (result : Result Outcome PushFault) → Follows answer result
    → (old new : Option (List LinkPlan)) → dialled.Hears old new answer → Hears old new result
hears_as answer result f None new none = none
hears_as answer result f (Some old) new h = (h.0, h.1, h.2, h.3, heard_as answer result f h.0 h.4)

pub counts_as : (answer : Result Response AskFault) (result : Result Outcome PushFault) → Follows answer result
    → (before now : ℕ) → dialled.Counts before now answer → Counts before now result
counts_as (Ok response) result (inl e) before now c = rw e c
counts_as (Ok response) result (inr e) before now c = rw e c
counts_as (Err asked.Dial) result f before now c = rw f c
counts_as (Err asked.Link) result f before now c = rw f c
counts_as (Err asked.NoResponse) result f before now c = rw f c
counts_as (Err asked.Memory) result f before now c = rw f c
