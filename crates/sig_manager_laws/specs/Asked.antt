-- The calls that a manager's requests make, where a client's bearer is put in (OpenID Shared Signals Framework 1.0, sections 8.1.1
-- and 8.1.2).
use Rattle.std.specs.Prelude.{◌≡◌, ◌≤◌, ℕ, List, length, Bool, Some, None, is_some, IfSome, IsUtf8, Ok}
use Rattle.sig_json.specs.declared.limits.TheConstants.{REQUEST_BODY_BYTES}
use Rattle.sig_http.specs.declared.message.Request.{Request}
use Rattle.sig_terms.specs.declared.call.Call.{Call}
use Rattle.sig_terms.specs.declared.call.Call.TheVariants as call
use Rattle.sig_terms.specs.declared.rules.Rules.{Rules}
use Rattle.sig_terms.specs.declared.want.Want.{Want}
use Rattle.sig_txroutes.specs.Calls.{call_of, client_among}
use Rattle.sig_manager.specs.Asking.{list_request, request_of}
use Rattle.sig_manager.specs.declared.step.Step.{Step}
use Rattle.sig_manager.specs.declared.step.Step.TheVariants as step
use Rattle.sig_manager_laws.specs.Configured.{IsTaken}
use Rattle.sig_manager_laws.specs.Written.{IsWritten}

-- the request as it is sent
abbrev pub with_bearer : List ℕ → Request → Request
with_bearer bearer r = record { method = r.method; path = r.path; query = r.query; bearer = Some bearer; close = r.close; body = r.body }

-- the client of the bearer
abbrev pub IsClient : Rules → List ℕ → List ℕ → Type 0
IsClient rules bearer client = client_among rules.clients (Some bearer) ≡ Some client

-- the call of a step, with the same stream, want and status
abbrev pub call_for : List ℕ → Step → Call
call_for client (step.Status stream wanted) = call.GetStatus client stream
call_for client (step.Delete stream) = call.Delete client stream
call_for client (step.Replace stream w) = call.Put client stream w
call_for client (step.Create w status) = call.Create client w
call_for client (step.SetStatus stream status) = call.SetStatus client stream status None

-- a want that the transmitter takes: its endpoint is reached with the transmitter's gateway, if there is one
pub record IsAcceptable (gateway : Bool) (w : Want) : Type 0 where
  pub delivery : IfSome w.delivery (IsTaken gateway)
  pub written : IsWritten w

-- the texts of a step are in UTF-8, and its want is taken
abbrev pub IsAskable : Bool → Step → Type 0
IsAskable gateway (step.Status stream wanted) = IsUtf8 stream
IsAskable gateway (step.Delete stream) = IsUtf8 stream
IsAskable gateway (step.Replace stream w) = IsUtf8 stream × IsAcceptable gateway w
IsAskable gateway (step.Create w status) = IsAcceptable gateway w
IsAskable gateway (step.SetStatus stream status) = IsUtf8 stream

-- its body is no longer than a request's may be
abbrev pub Fits : Step → Type 0
Fits s = length (request_of s).body ≤ REQUEST_BODY_BYTES

-- the first request asks for all streams of the client
abbrev pub ListsAreRouted : Type 0
ListsAreRouted = (rules : Rules) (bearer client : List ℕ) → IsClient rules bearer client
    → call_of (with_bearer bearer list_request) rules ≡ Ok (call.ReadAll client)

-- and that of a step makes its call
abbrev pub StepsAreRouted : Type 0
StepsAreRouted = (rules : Rules) (bearer client : List ℕ) (s : Step) → IsClient rules bearer client → IsAskable (is_some rules.gateway) s → Fits s
    → call_of (with_bearer bearer (request_of s)) rules ≡ Ok (call_for client s)
