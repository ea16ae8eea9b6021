-- What requests ask is proper.
use Rattle.std.proofs.Common.{◌≡◌, ◌≤◌, ◌⊎◌, ◌∙◌, ap, sym, inl, inr, true, false, length, Result, Ok, Err}
use Rattle.std.specs.Prelude.{IfOk, is_some}
use Rattle.sig_json.specs.Answers.{Answers}
use Rattle.sig_json.specs.declared.limits.TheConstants.{REQUEST_BODY_BYTES}
use Rattle.sig_http.specs.declared.fault.HttpRefusal.{HttpRefusal}
use Rattle.sig_http.specs.declared.fault.HttpRefusal.TheVariants as refusal
use Rattle.sig_http.specs.declared.message.Request.{Request}
use Rattle.sig_terms.specs.declared.call.Call.{Call}
use Rattle.sig_terms.specs.declared.call.Call.TheVariants.{Metadata, Create, ReadAll, Read, Patch, Put, Delete, GetStatus, SetStatus, Add, Remove, Verify, Poll, Publish, OperatorStatus, OperatorDelete, Streams, Refused, Figures, Deliver, Hand, Settle}
use Rattle.sig_terms.specs.declared.rules.Rules.{Rules}
use Rattle.sig_terms.specs.declared.want.Want.{Want}
use Rattle.sig_calls.specs.Proper.{IsProperCall, IsProperWant}
use Rattle.sig_bounds.proofs.WantSizes.{wants_proper}
use Rattle.sig_txroutes.proofs.AskLemmas.{requests_make_proper_calls, sized}
use Rattle.sig_txroutes.specs.Calls.{call_of, is_long, routed_of, too_long}
use Rattle.sig_txroutes.specs.Laws.{IsProperOf, IsWanted}

-- what a request of such a size wants
proper_want : (request : Request) (rules : Rules) (want : Want) → length request.body ≤ REQUEST_BODY_BYTES → IsWanted request rules want → IsProperWant want
proper_want request rules want small h = wants_proper request.body h.0 (is_some rules.gateway) want small h.1 h.2

proper_of : (request : Request) (rules : Rules) (call : Call) → length request.body ≤ REQUEST_BODY_BYTES → IsProperOf request rules call → IsProperCall call
proper_of request rules Metadata small h = h
proper_of request rules (Create client want) small h = proper_want request rules want small h
proper_of request rules (ReadAll client) small h = h
proper_of request rules (Read client stream) small h = h
proper_of request rules (Patch client stream want) small h = proper_want request rules want small h
proper_of request rules (Put client stream want) small h = proper_want request rules want small h
proper_of request rules (Delete client stream) small h = h
proper_of request rules (GetStatus client stream) small h = h
proper_of request rules (SetStatus client stream status reason) small h = h
proper_of request rules (Add client stream subject) small h = h
proper_of request rules (Remove client stream subject) small h = h
proper_of request rules (Verify client stream state) small h = h
proper_of request rules (Poll client stream ask) small h = h
proper_of request rules (Publish id news) small h = h
proper_of request rules (OperatorStatus stream status reason) small h = h
proper_of request rules (OperatorDelete stream) small h = h
proper_of request rules (Streams from) small h = h
proper_of request rules (Refused from) small h = h
proper_of request rules Figures small h = h
proper_of request rules (Deliver stream) small h = h
proper_of request rules (Hand streams) small h = absurd h
proper_of request rules (Settle stream number outcome) small h = absurd h

-- the call that a request makes
proper_call : (request : Request) (rules : Rules) (call : Call) → call_of request rules ≡ Ok call → IsProperCall call
proper_call request rules call h = proper_of request rules call (sized request rules call h).0 (requests_make_proper_calls request rules call h)

-- what is asked within a request's size is what is asked
pub asked_within : (request : Request) (rules : Rules) (result : Result Call HttpRefusal) → is_long request.body ≡ false
    → Answers refusal.Memory result (routed_of request rules) → Answers refusal.Memory result (call_of request rules)
unfolding call_of
asked_within request rules result short h = rw short h

pub proper_within : (request : Request) (rules : Rules) (result : Result Call HttpRefusal) → is_long request.body ≡ false
    → Answers refusal.Memory result (routed_of request rules) → IfOk result IsProperCall
proper_within request rules (Ok call) short h = proper_call request rules call (asked_within request rules (Ok call) short h)
proper_within request rules (Err fault) short h = tt

pub asked_long : (request : Request) (rules : Rules) (r : HttpRefusal) → is_long request.body ≡ true → (r ≡ refusal.Memory) ⊎ (r ≡ too_long)
    → (r ≡ refusal.Memory) ⊎ (call_of request rules ≡ Err r)
unfolding call_of
asked_long request rules r long (inl memory) = inl memory
asked_long request rules r long (inr is) = inr (rw long (ap Err (sym is)))
