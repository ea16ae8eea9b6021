-- What a push answers, and what it does to the side by which it dials, as that side counts and tells it (RFC 8935, section 2).
use Rattle.std.specs.Prelude.{◌≡◌, ◌⊎◌, ℕ, List, ◌++◌, Option, Some, None, option_map, IsSomeAnd, Result, Ok, Err}
use Rattle.std.specs.Option.{option_to_list}
use Rattle.sig_delivery.specs.Outcomes.{outcome_of}
use Rattle.sig_dial.specs.Asked.{IsPrefix}
use Rattle.sig_dial.specs.Exchanged.{DecidesNone, DecidesOne}
use Rattle.sig_dial.specs.declared.fault.AskFault.{AskFault}
use Rattle.sig_dial.specs.declared.fault.AskFault.TheVariants as asked
use Rattle.sig_http.specs.declared.message.Response.{Response}
use Rattle.sig_links.specs.Told.{LinkPlan, Sent}
use Rattle.sig_outside.specs.Causes.{Raised}
use Rattle.sig_outside.specs.declared.place.Place.{Place}
use Rattle.sig_terms.specs.declared.call.Outcome.{Outcome}
use Rattle.sig_terms.specs.declared.endpoint.Endpoint.{Endpoint}
use Rattle.sig_terms.specs.declared.rules.Rules.{Rules}
use Rattle.sig_terms.specs.declared.token.Token.{Token}
use Rattle.sig_push.specs.Targets.{place_by, push_text}
use Rattle.sig_push.specs.declared.fault.PushFault.{PushFault}
use Rattle.sig_push.specs.declared.fault.PushFault.TheVariants.{NoEndpoint, NoGateway, Dial, Link, NoResponse, Memory}

-- a request that has no response is a push that has none
abbrev pub fault_by : AskFault → PushFault
fault_by asked.Dial = Dial
fault_by asked.Link = Link
fault_by asked.NoResponse = NoResponse
fault_by asked.Memory = Memory

-- the answer of a push by that of its request: what the response settles, unless memory ran out
abbrev pub Follows : Result Response AskFault → Result Outcome PushFault → Type 0
Follows (Ok response) result = (result ≡ Err Memory) ⊎ (result ≡ Ok (outcome_of response))
Follows (Err fault) result = result ≡ Err (fault_by fault)

-- ---- the link of a push

-- a push that ended so may have dialled no link
abbrev pub DialsNone : Result Outcome PushFault → Type 0
DialsNone (Ok outcome) = ⊥
DialsNone (Err NoEndpoint) = Unit {0}
DialsNone (Err NoGateway) = Unit {0}
DialsNone (Err Dial) = Unit {0}
DialsNone (Err Link) = ⊥
DialsNone (Err NoResponse) = ⊥
DialsNone (Err Memory) = Unit {0}

-- what was written to the link of a push that ended so
abbrev pub IsWritten : List ℕ → Result Outcome PushFault → List ℕ → Type 0
IsWritten text (Ok outcome) bytes = bytes ≡ text
IsWritten text (Err NoEndpoint) bytes = ⊥
IsWritten text (Err NoGateway) bytes = ⊥
IsWritten text (Err Dial) bytes = ⊥
IsWritten text (Err Link) bytes = IsPrefix bytes text
IsWritten text (Err NoResponse) bytes = bytes ≡ text
IsWritten text (Err Memory) bytes = IsPrefix bytes text

-- the host and the port of a place
abbrev pub address_of : Place → List ℕ × ℕ
address_of place = (place.host, place.port)

-- a link was dialled for the push of a token to its endpoint: where it led, and what was written to it
pub record IsPushed (rules : Rules) (token : Token) (result : Result Outcome PushFault) (sent : Sent) (endpoint : Endpoint) : Type 0 where
  pub place : sent.place ≡ option_map address_of (place_by rules.gateway endpoint)
  pub bytes : IsWritten (push_text rules token endpoint) result sent.bytes

-- the link of a push once it was given back, where one was dialled
abbrev pub IsSent : Rules → Token → Result Outcome PushFault → Option Sent → Type 0
IsSent rules token result None = DialsNone result
IsSent rules token result (Some sent) = IsSomeAnd token.endpoint (IsPushed rules token result sent)

-- where a side tells which links were given back to it: they are more by the link of this push, where one was dialled
abbrev pub Sends : Rules → Token → Option (List Sent) → Option (List Sent) → Result Outcome PushFault → Type 0
Sends rules token None new result = new ≡ None
Sends rules token (Some old) new result = (link : Option Sent) × (new ≡ Some (old ++ option_to_list link)) × IsSent rules token result link

-- ---- what the link gave

-- a push ended so over a link that gives these bytes: its answer is what the response settles that they decide
abbrev pub EndsOver : Result Outcome PushFault → List ℕ → Type 0
EndsOver (Ok outcome) bytes = (response : Response) × DecidesOne bytes response × (outcome ≡ outcome_of response)
EndsOver (Err NoEndpoint) bytes = ⊥
EndsOver (Err NoGateway) bytes = ⊥
EndsOver (Err Dial) bytes = ⊥
EndsOver (Err Link) bytes = Unit {0}
EndsOver (Err NoResponse) bytes = DecidesNone bytes
EndsOver (Err Memory) bytes = Unit {0}

-- the link that was taken for a push, where one was dialled
abbrev pub IsHeard : Result Outcome PushFault → Option LinkPlan → Type 0
IsHeard result None = DialsNone result
IsHeard result (Some plan) = EndsOver result plan.bytes

-- where a side tells which links its dials will give: the first of them was taken for this push, where one was dialled
abbrev pub Hears : Option (List LinkPlan) → Option (List LinkPlan) → Result Outcome PushFault → Type 0
Hears None new result = new ≡ None
Hears (Some old) new result =
    (link : Option LinkPlan) × (rest : List LinkPlan) × (old ≡ option_to_list link ++ rest) × (new ≡ Some rest) × IsHeard result link

-- ---- the side's count

-- it is raised by one where the dial or the link failed, and any other end leaves it
abbrev pub Counts : {T : Type 0} → ℕ → ℕ → Result T PushFault → Type 0
Counts before now (Ok x) = now ≡ before
Counts before now (Err NoEndpoint) = now ≡ before
Counts before now (Err NoGateway) = now ≡ before
Counts before now (Err Dial) = Raised before now
Counts before now (Err Link) = Raised before now
Counts before now (Err NoResponse) = now ≡ before
Counts before now (Err Memory) = now ≡ before
