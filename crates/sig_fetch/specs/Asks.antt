-- What a peer is asked, and where the request leads (RFC 8936, section 2.4).
use Rattle.std.specs.Prelude.{ℕ, List, [], ◌∷◌, ◌++◌, Bool, true, false, ◌&&◌, is_none, Option, Some, None, Result, Ok, Err, codes, filter_map, if◌then◌else◌}
use Rattle.sig_json.specs.declared.limits.TheConstants.{TOKENS_PER_PAGE}
use Rattle.sig_outside.specs.declared.place.Place.{Place}
use Rattle.sig_http.specs.Spelling.{request_spelling}
use Rattle.sig_http.specs.declared.message.Request.{Request}
use Rattle.sig_terms.specs.declared.call.PollAsk.{PollAsk}
use Rattle.sig_terms.specs.declared.call.Reported.{Reported}
use Rattle.sig_set.specs.declared.refusal.Code.{Code}
use Rattle.sig_set.specs.Spelled.{code_text}
use Rattle.sig_delivery.specs.Asks.{ask_text}
use Rattle.sig_journal.specs.declared.node_fault.NodeFault.{NodeFault}
use Rattle.sig_rxnode.specs.declared.answer.RxAnswer.{RxAnswer}
use Rattle.sig_rxnode.specs.declared.answer.RxAnswer.TheVariants.{Accepted, Seen, Refused, Verdict, Rows, Figures}
use Rattle.sig_rxnode.specs.declared.call.RxCall.{RxCall}
use Rattle.sig_rxnode.specs.declared.call.RxCall.TheVariants as call
use Rattle.sig_rxnode.specs.declared.rules.Peer.{Peer}
use Rattle.sig_rxnode.specs.declared.turn.RxTurn.{RxTurn}

-- ---- where it leads

-- to the peer's own place, and to the gateway where it is https
abbrev pub place_of : Peer → Option Place
place_of peer = if peer.endpoint.secure then peer.gateway else Some peer.endpoint.place

-- a peer is https, and there is no gateway to it
abbrev pub lacks_gateway : Peer → Bool
lacks_gateway peer = peer.endpoint.secure && is_none peer.gateway

-- ---- what is acknowledged and reported

-- the identifier under which a poll listed the token of a call
abbrev pub named_in : RxCall → Option (List ℕ)
named_in (call.Token principal named bytes) = named
named_in (call.Verdict subject) = None
named_in (call.Rows from) = None
named_in call.Figures = None

-- a token was accepted, or had been seen
abbrev pub is_taken : Result RxAnswer NodeFault → Bool
is_taken (Ok Accepted) = true
is_taken (Ok Seen) = true
is_taken (Ok (Refused code spot)) = false
is_taken (Ok (Verdict verdict)) = false
is_taken (Ok (Rows rows)) = false
is_taken (Ok (Figures tokens rows)) = false
is_taken (Err fault) = false

-- why a token was refused, where it was
abbrev pub refusal_in : Result RxAnswer NodeFault → Option Code
refusal_in (Ok Accepted) = None
refusal_in (Ok Seen) = None
refusal_in (Ok (Refused code spot)) = Some code
refusal_in (Ok (Verdict verdict)) = None
refusal_in (Ok (Rows rows)) = None
refusal_in (Ok (Figures tokens rows)) = None
refusal_in (Err fault) = None

-- a token that was taken is acknowledged by its identifier
abbrev pub ack_of : RxTurn → Option (List ℕ)
ack_of turn = if is_taken turn.result then named_in turn.call else None

-- a token that was refused is reported by its identifier, with the code of its refusal (RFC 8936, section 2.6)
abbrev pub report_by : Option (List ℕ) → Option Code → Option Reported
report_by None code = None
report_by (Some jti) None = None
report_by (Some jti) (Some code) = Some (record { jti = jti; code = code_text code })

abbrev pub report_of : RxTurn → Option Reported
report_of turn = report_by (named_in turn.call) (refusal_in turn.result)

-- what is asked after the turns of a round: a page of tokens, with what became of the tokens of these turns, in their order
abbrev pub ask_after : List RxTurn → PollAsk
ask_after turns = record {
  max = Some TOKENS_PER_PAGE;
  acks = filter_map ack_of turns;
  errors = filter_map report_of turns;
}

-- ---- the request

-- an ask reports something, so that its texts are in English
abbrev pub reports : List Reported → Bool
reports [] = false
reports (r ∷ rs) = true

-- the request of an ask (RFC 8936, section 2.4), with the bearer that the peer knows (RFC 6750, section 2.1)
abbrev pub poll_of : Peer → PollAsk → Request
poll_of peer ask = record {
  method = codes "POST";
  path = peer.endpoint.path;
  query = [];
  bearer = Some (codes "Bearer " ++ peer.bearer);
  close = true;
  body = ask_text ask;
}

-- the kind of its body
abbrev pub poll_kind : List ℕ
poll_kind = codes "application/json"

-- what is written of it: the peer's host is named also where the gateway is dialled
abbrev pub poll_text : Peer → PollAsk → List ℕ
poll_text peer ask = request_spelling peer.endpoint.place (poll_of peer ask) poll_kind (reports ask.errors)
