-- Which call a request makes: by its route, its bearer, and what its query or its body says.
use Rattle.std.specs.Prelude.{ℕ, List, Bool, false, find, length, nat_lt, Option, Some, None, is_some, option_map, Result, Ok, Err, ok_or, bytes_eq, codes, if◌then◌else◌}
use Rattle.serde_json.specs.Data.{Data}
use Rattle.sig_json.specs.Answers.{result_map}
use Rattle.sig_json.specs.declared.limits.TheConstants.{REQUEST_BODY_BYTES}
use Rattle.sig_http.specs.Query.{value_in}
use Rattle.sig_http.specs.declared.fault.HttpRefusal.{HttpRefusal}
use Rattle.sig_http.specs.declared.fault.HttpRefusal.TheVariants as refusal
use Rattle.sig_http.specs.declared.message.Request.{Request}
use Rattle.sig_subject.specs.declared.subject.Subject.{Subject}
use Rattle.sig_terms.specs.declared.call.Call.{Call}
use Rattle.sig_terms.specs.declared.call.Call.TheVariants as call
use Rattle.sig_terms.specs.declared.call.PollAsk.{PollAsk}
use Rattle.sig_terms.specs.declared.rules.Client.{Client}
use Rattle.sig_terms.specs.declared.rules.Rules.{Rules}
use Rattle.sig_terms.specs.declared.want.Want.{Want}
use Rattle.sig_stream.specs.Steps.{◌>>=◌}
use Rattle.sig_delivery.specs.Asks.{ask_of}
use Rattle.sig_delivery.specs.declared.fault.BodyFault.{BodyFault}
use Rattle.sig_delivery.specs.declared.fault.BodyFault.TheVariants as fault
use Rattle.sig_txroutes.specs.Bodies.{object_in, optional_text, publication_in, status_said, stream_in, subject_in, want_in}
use Rattle.sig_txroutes.specs.Places.{place_of}
use Rattle.sig_txroutes.specs.Routes.{polled_in, route_for}
use Rattle.sig_txroutes.specs.declared.route.Route.{Route}
use Rattle.sig_txroutes.specs.declared.route.Route.TheVariants as route
use Rattle.sig_txroutes.specs.declared.route.QueryCall.{QueryCall}
use Rattle.sig_txroutes.specs.declared.route.QueryCall.TheVariants as query
use Rattle.sig_txroutes.specs.declared.route.BodyCall.{BodyCall}
use Rattle.sig_txroutes.specs.declared.route.BodyCall.TheVariants as body
use Rattle.sig_txroutes.specs.declared.route.OperatorCall.{OperatorCall}
use Rattle.sig_txroutes.specs.declared.route.OperatorCall.TheVariants as operator
use Rattle.sig_txroutes.specs.declared.route.OperatorQuery.{OperatorQuery}
use Rattle.sig_txroutes.specs.declared.route.OperatorQuery.TheVariants as overseen

-- ---- bearers (RFC 6750, section 2.1), compared byte for byte

-- the request shows this bearer
abbrev pub shows : Option (List ℕ) → List ℕ → Bool
shows None bearer = false
shows (Some shown) bearer = bytes_eq shown bearer

-- the name of the client whose bearer is shown; of two clients with one bearer it is the first's
abbrev pub client_among : List Client → Option (List ℕ) → Option (List ℕ)
client_among clients shown = option_map (λ c. c.name) (find (λ c. shows shown c.bearer) clients)

abbrev pub client_by : Rules → Request → Result (List ℕ) HttpRefusal
client_by rules request = ok_or (client_among rules.clients request.bearer) refusal.Auth

-- ---- a client's call by its query

-- the value that the query has to name
abbrev pub named_stream : Option (List ℕ) → Result (List ℕ) HttpRefusal
named_stream stream = ok_or stream (refusal.Bad (codes "stream_id"))

-- the configuration of one stream, or of all where none is named
abbrev pub read_call : List ℕ → Option (List ℕ) → Call
read_call client None = call.ReadAll client
read_call client (Some stream) = call.Read client stream

abbrev pub query_call : QueryCall → List ℕ → Option (List ℕ) → Result Call HttpRefusal
query_call query.Read client stream = Ok (read_call client stream)
query_call query.Delete client stream = result_map (call.Delete client) (named_stream stream)
query_call query.GetStatus client stream = result_map (call.GetStatus client) (named_stream stream)

-- ---- a client's call by its body

abbrev pub create_call : Bool → List ℕ → Data → Result Call HttpRefusal
create_call gateway client d = result_map (call.Create client) (want_in gateway d)

-- what is wanted, and then `stream_id`
abbrev pub change_call : (List ℕ → List ℕ → Want → Call) → Bool → List ℕ → Data → Result Call HttpRefusal
change_call make gateway client d = do
  want ← want_in gateway d
  stream ← stream_in d
  Ok (make client stream want)

-- `reason`, `status`, `stream_id`
abbrev pub status_call : List ℕ → Data → Result Call HttpRefusal
status_call client d = do
  said ← status_said d
  Ok (call.SetStatus client said.stream said.status said.reason)

-- `stream_id`, `subject`
abbrev pub subject_call : (List ℕ → List ℕ → Subject → Call) → List ℕ → Data → Result Call HttpRefusal
subject_call make client d = do
  stream ← stream_in d
  subject ← subject_in d
  Ok (make client stream subject)

-- `stream_id`, `state`
abbrev pub verify_call : List ℕ → Data → Result Call HttpRefusal
verify_call client d = do
  stream ← stream_in d
  state ← optional_text (codes "state") d
  Ok (call.Verify client stream state)

abbrev pub body_call : BodyCall → Bool → List ℕ → Data → Result Call HttpRefusal
body_call body.Create gateway client d = create_call gateway client d
body_call body.Patch gateway client d = change_call call.Patch gateway client d
body_call body.Put gateway client d = change_call call.Put gateway client d
body_call body.SetStatus gateway client d = status_call client d
body_call body.Add gateway client d = subject_call call.Add client d
body_call body.Remove gateway client d = subject_call call.Remove client d
body_call body.Verify gateway client d = verify_call client d

-- ---- the operator's call by its body

-- `reason`, `status`, `stream_id`
abbrev pub operator_status_call : Data → Result Call HttpRefusal
operator_status_call d = do
  said ← status_said d
  Ok (call.OperatorStatus said.stream said.status said.reason)

abbrev pub operator_call : OperatorCall → Data → Result Call HttpRefusal
operator_call operator.Publish d = publication_in d
operator_call operator.SetStatus d = operator_status_call d
operator_call operator.Deliver d = result_map call.Deliver (stream_in d)

-- ---- the operator's call by its query

-- `stream_id`, `from`, and nothing
abbrev pub operator_query : OperatorQuery → List ℕ → Result Call HttpRefusal
operator_query overseen.Delete query = result_map call.OperatorDelete (named_stream (value_in query (codes "stream_id")))
operator_query overseen.Streams query = result_map call.Streams (place_of (value_in query (codes "from")))
operator_query overseen.Refused query = result_map call.Refused (place_of (value_in query (codes "from")))
operator_query overseen.Figures query = Ok call.Figures

-- ---- a poll of a client's stream (RFC 8936, section 2.4)

-- a body that asks nothing is wrong where it is wrong
abbrev pub poll_with : List ℕ → List ℕ → Result PollAsk BodyFault → Result Call HttpRefusal
poll_with client stream (Ok ask) = Ok (call.Poll client stream ask)
poll_with client stream (Err (fault.Bad place)) = Err (refusal.Bad place)
poll_with client stream (Err fault.Memory) = Err refusal.Memory

abbrev pub poll_of : List ℕ → List ℕ → List ℕ → Result Call HttpRefusal
poll_of client stream body = poll_with client stream (ask_of body)

-- ---- the call of a request

abbrev pub by_query : QueryCall → Request → Rules → Result Call HttpRefusal
by_query q request rules = do
  client ← client_by rules request
  query_call q client (value_in request.query (codes "stream_id"))

abbrev pub by_body : BodyCall → Request → Rules → Result Call HttpRefusal
by_body b request rules = do
  client ← client_by rules request
  d ← object_in request.body
  body_call b (is_some rules.gateway) client d

abbrev pub by_poll : Request → Rules → Result Call HttpRefusal
by_poll request rules = do
  client ← client_by rules request
  poll_of client (polled_in request.path) request.body

abbrev pub operated : OperatorCall → Request → Result Call HttpRefusal
operated o request = do
  d ← object_in request.body
  operator_call o d

abbrev pub by_operator : OperatorCall → Request → Rules → Result Call HttpRefusal
by_operator o request rules =
    if shows request.bearer rules.operator then operated o request else Err refusal.Auth

abbrev pub by_operator_query : OperatorQuery → Request → Rules → Result Call HttpRefusal
by_operator_query o request rules =
    if shows request.bearer rules.operator then operator_query o request.query else Err refusal.Auth

abbrev pub by_route : Route → Request → Rules → Result Call HttpRefusal
by_route route.Metadata request rules = Ok call.Metadata
by_route (route.Query q) request rules = by_query q request rules
by_route (route.Body b) request rules = by_body b request rules
by_route route.Poll request rules = by_poll request rules
by_route (route.Operator o) request rules = by_operator o request rules
by_route (route.OperatorQuery o) request rules = by_operator_query o request rules

-- what a request asks, whatever its size: first its path decides, then its method, its bearer, and last its query or its body
unfoldable pub routed_of : Request → Rules → Result Call HttpRefusal
routed_of request rules = do
  r ← route_for request.method request.path
  by_route r request rules

-- a body that is longer than a request's may be is wrong as a whole
abbrev pub is_long : List ℕ → Bool
is_long body = nat_lt REQUEST_BODY_BYTES (length body)

abbrev pub too_long : HttpRefusal
too_long = refusal.Bad (codes "body")

-- the call that a request makes, or why it is refused
unfoldable pub call_of : Request → Rules → Result Call HttpRefusal
call_of request rules = if is_long request.body then Err too_long else routed_of request rules
