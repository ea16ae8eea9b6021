-- What a request asks, taken apart: its route, who asks, and what was read.
use Rattle.std.proofs.Common.{◌≡◌, ◌∙◌, ap, sym, subst, length, ℕ, List, Bool, true, false, Option, Some, None, refl, find, codes, ◌≤◌, arith}
use Rattle.std.specs.Prelude.{Result, Ok, Err, option_and_then, option_map, is_some, IfSome, IsUtf8, Contains, if◌then◌else◌}
use Rattle.std.specs.Result.{result_ok}
use Rattle.serde_json.specs.Data.{Data, null, boolean, number, string, array, object, depth}
use Rattle.serde_json.specs.Find.{as_str}
use Rattle.serde_json.specs.Read.{max_depth}
use Rattle.sig_json.specs.Answers.{result_map}
use Rattle.sig_json.specs.Json.{json_of, member_of, object_itself}
use Rattle.sig_json.specs.Order.{InOrder}
use Rattle.sig_json.proofs.Spelled.{has_in_order, spells_in_order}
use Rattle.sig_http.specs.Query.{value_in}
use Rattle.sig_http.specs.declared.fault.HttpRefusal.{HttpRefusal}
use Rattle.sig_http.specs.declared.fault.HttpRefusal.TheVariants as refusal
use Rattle.sig_http.specs.declared.message.Request.{Request}
use Rattle.sig_subject.specs.Reading.{subject_of}
use Rattle.sig_subject.specs.Written.{IsProperSubject}
use Rattle.sig_subject.specs.declared.subject.Subject.{Subject}
use Rattle.sig_subject.proofs.ProperRead.{reads_proper}
use Rattle.sig_terms.specs.declared.call.Call.{Call}
use Rattle.sig_terms.specs.declared.call.Call.TheVariants as call
use Rattle.sig_terms.specs.declared.call.PollAsk.{PollAsk}
use Rattle.sig_delivery.specs.Asks.{ask_of}
use Rattle.sig_delivery.specs.declared.fault.BodyFault.{BodyFault}
use Rattle.sig_delivery.specs.declared.fault.BodyFault.TheVariants as fault
use Rattle.sig_json.specs.declared.limits.TheConstants.{REQUEST_BODY_BYTES}
use Rattle.std.proofs.lemmas.Bool.{le-ltb, ltb-false}
use Rattle.sig_terms.specs.declared.rules.Client.{Client}
use Rattle.sig_terms.specs.declared.rules.Rules.{Rules}
use Rattle.sig_terms.specs.declared.want.Want.{Want}
use Rattle.sig_stream.specs.Publications.{publish_of}
use Rattle.sig_stream.specs.Steps.{◌>>=◌, where_given}
use Rattle.sig_stream.specs.Wants.{want_of}
use Rattle.sig_stream.proofs.ProperPublications.{reads_proper_publications}
use Rattle.sig_txroutes.specs.declared.body.StatusSaid.{StatusSaid}
use Rattle.sig_txroutes.specs.Bodies.{object_in, optional_text, place_in_publication, place_in_want, refused_as, status_in, status_said, stream_in, subject_at, subject_in, text_at, want_in}
use Rattle.sig_txroutes.specs.Calls.{body_call, by_body, by_operator, by_operator_query, by_poll, by_query, by_route, call_of, change_call, client_among, client_by, create_call, is_long, named_stream, operated, operator_call, operator_query, poll_with, query_call, routed_of, shows, subject_call, too_long}
use Rattle.sig_txroutes.specs.Laws.{Asker, Anybody, Named, Operator, Itself, AreApart, BearersDecide, ClientsAskForThemselves, HasBearer, IsFor, IsOf, IsProperOf, MayAskAs, OperatorsAskForThemselves, RequestsMakeProperCalls, RoutesExactly, asker_of}
use Rattle.sig_txroutes.specs.Routes.{polled_in, route_for}
use Rattle.sig_txroutes.specs.Places.{place_of}
use Rattle.sig_txroutes.specs.declared.route.Route.{Route}
use Rattle.sig_txroutes.specs.declared.route.Route.TheVariants as route
use Rattle.sig_txroutes.specs.declared.route.QueryCall.{QueryCall}
use Rattle.sig_txroutes.specs.declared.route.QueryCall.TheVariants as query
use Rattle.sig_txroutes.specs.declared.route.BodyCall.{BodyCall}
use Rattle.sig_txroutes.specs.declared.route.BodyCall.TheVariants as body
use Rattle.sig_txroutes.specs.declared.route.OperatorCall.{OperatorCall}
use Rattle.sig_txroutes.specs.declared.route.OperatorCall.TheVariants as operator
use Rattle.sig_txroutes.specs.declared.route.OperatorQuery.{OperatorQuery}
use Rattle.sig_txroutes.specs.declared.route.OperatorQuery.TheVariants as overseen
use Rattle.sig_txroutes.proofs.RouteLemmas.{found_is, ok_or_some, route_at, route_is, text_is}

-- ---- steps

-- a step that gave something, and what it gave
stepped : {A B E : Type 0} (r : Result A E) (f : A → Result B E) (y : B) → (r >>= f) ≡ Ok y → (x : A) × (r ≡ Ok x) × (f x ≡ Ok y)
stepped (Ok x) f y h = (x, refl, h)
stepped (Err e) f y h = cc

mapped : {A B E : Type 0} (f : A → B) (r : Result A E) (y : B) → result_map f r ≡ Ok y → (x : A) × (r ≡ Ok x) × (f x ≡ y)
mapped f (Ok x) y h = (x, refl, cc)
mapped f (Err e) y h = cc

ok_same : {T E : Type 0} (x y : T) → ◌≡◌ {A = Result T E} (Ok x) (Ok y) → x ≡ y
ok_same x y h = cc

then_some : {A B : Type 0} (o : Option A) (f : A → Option B) (y : B) → option_and_then f o ≡ Some y → (x : A) × (o ≡ Some x) × (f x ≡ Some y)
then_some None f y h = cc
then_some (Some x) f y h = (x, refl, h)

map_some : {A B : Type 0} (f : A → B) (o : Option A) (y : B) → option_map f o ≡ Some y → (x : A) × (o ≡ Some x) × (f x ≡ y)
map_some f None y h = cc
map_some f (Some x) y h = (x, refl, cc)

ok_some : {T E : Type 0} (r : Result T E) (x : T) → result_ok r ≡ Some x → r ≡ Ok x
ok_some (Ok y) x h = cc
ok_some (Err e) x h = cc

read_as : {T E F : Type 0} (f : E → F) (r : Result T E) (x : T) → refused_as f r ≡ Ok x → r ≡ Ok x
read_as f (Ok y) x h = cc
read_as f (Err e) x h = cc

-- ---- the route

taken_apart : (request : Request) (rules : Rules) (asked : Call) → routed_of request rules ≡ Ok asked
    → (r : Route) × (route_for request.method request.path ≡ Ok r) × (by_route r request rules ≡ Ok asked)
unfolding routed_of
taken_apart request rules asked h = stepped (route_for request.method request.path) _ asked h

put_together : (request : Request) (rules : Rules) (asked : Call) (r : Route) → route_for request.method request.path ≡ Ok r
    → by_route r request rules ≡ Ok asked → routed_of request rules ≡ Ok asked
unfolding routed_of
put_together request rules asked r is asks = ap (λ found. found >>= (λ r. by_route r request rules)) is ∙ asks

-- a request of which something is asked isn't too long, and asks what it asks whatever its size
pub sized : (request : Request) (rules : Rules) (asked : Call) → call_of request rules ≡ Ok asked
    → (length request.body ≤ REQUEST_BODY_BYTES) × (routed_of request rules ≡ Ok asked)
unfolding call_of
sized request rules asked h = at (is_long request.body) refl h
  where
    at : (long : Bool) → is_long request.body ≡ long → ◌≡◌ {A = Result Call HttpRefusal} (if long then Err too_long else routed_of request rules) (Ok asked)
        → (length request.body ≤ REQUEST_BODY_BYTES) × (routed_of request rules ≡ Ok asked)
    at true is here = cc
    at false is here = (ltb-false REQUEST_BODY_BYTES (length request.body) is, here)

within : (request : Request) (rules : Rules) → is_long request.body ≡ false → call_of request rules ≡ routed_of request rules
unfolding call_of
within request rules short = rw short refl

not_long : (request : Request) → length request.body ≤ REQUEST_BODY_BYTES → is_long request.body ≡ false
not_long request small = le-ltb REQUEST_BODY_BYTES (length request.body) small

pub routes_exactly : RoutesExactly
routes_exactly request rules asked = (forth, back)
  where
    forth : call_of request rules ≡ Ok asked → IsFor request rules asked
    forth h =
        let (small, asks) = sized request rules asked h in
        let (r, is, by) = taken_apart request rules asked asks in
        let here = route_is request.method request.path r is in
        record { route = r; method = here.0; path = here.1; asks = by; fits = small }

    back : IsFor request rules asked → call_of request rules ≡ Ok asked
    back for =
        let at : route_for request.method request.path ≡ Ok for.route = ap (λ m. route_for m request.path) for.method ∙ route_at for.route request.path for.path in
        within request rules (not_long request for.fits) ∙ put_together request rules asked for.route at for.asks

-- ---- who asks

is_shown : (shown : Option (List ℕ)) (bearer : List ℕ) → shows shown bearer ≡ true → shown ≡ Some bearer
is_shown None bearer h = cc
is_shown (Some text) bearer h = ap Some (text_is text bearer h)

has_bearer : (request : Request) (rules : Rules) (name : List ℕ) → client_by rules request ≡ Ok name → HasBearer rules request.bearer name
has_bearer request rules name h =
    let shows_it = λ (c : Client). shows request.bearer c.bearer in
    let (c, at, named) = map_some (λ (c : Client). c.name) (find shows_it rules.clients) name (ok_or_some (client_among rules.clients request.bearer) refusal.Auth name h) in
    let is = found_is shows_it rules.clients c at in
    (c, is.0, named, is_shown request.bearer c.bearer is.1)

query_asker : (q : QueryCall) (client : List ℕ) (stream : Option (List ℕ)) (made : Call) → query_call q client stream ≡ Ok made → asker_of made ≡ Named client
query_asker query.Read client None made h = ap asker_of (sym (ok_same _ made h))
query_asker query.Read client (Some stream) made h = ap asker_of (sym (ok_same _ made h))
query_asker query.Delete client stream made h = let (x, at, is) = mapped (call.Delete client) (named_stream stream) made h in ap asker_of (sym is)
query_asker query.GetStatus client stream made h = let (x, at, is) = mapped (call.GetStatus client) (named_stream stream) made h in ap asker_of (sym is)

-- ---- what was read of a body

-- a change of a stream, by what it wants and the stream's name
record Changes (make : List ℕ → List ℕ → Want → Call) (gateway : Bool) (client : List ℕ) (d : Data) (made : Call) : Type 0 where
  want : Want
  stream : List ℕ
  wanted : want_of gateway d ≡ Ok want
  is : make client stream want ≡ made

changes : (make : List ℕ → List ℕ → Want → Call) (gateway : Bool) (client : List ℕ) (d : Data) (made : Call) → change_call make gateway client d ≡ Ok made → Changes make gateway client d made
changes make gateway client d made h =
    let (want, wanted, rest) = stepped (want_in gateway d) _ made h in
    let (stream, named, is) = stepped (stream_in d) _ made rest in
    record { want = want; stream = stream; wanted = read_as place_in_want (want_of gateway d) want wanted; is = ok_same _ made is }

creates : (gateway : Bool) (client : List ℕ) (d : Data) (made : Call) → create_call gateway client d ≡ Ok made → (want : Want) × (want_of gateway d ≡ Ok want) × (call.Create client want ≡ made)
creates gateway client d made h =
    let (want, wanted, is) = mapped (call.Create client) (want_in gateway d) made h in
    (want, read_as place_in_want (want_of gateway d) want wanted, is)

-- a text of a value in order is UTF-8
text_utf8 : (d : Data) (t : List ℕ) → InOrder d → as_str d ≡ Some t → IsUtf8 t
text_utf8 null t order h = cc
text_utf8 (boolean b) t order h = cc
text_utf8 (number n) t order h = cc
text_utf8 (string s) t order h = let same : s ≡ t = cc in subst IsUtf8 same order
text_utf8 (array ds) t order h = cc
text_utf8 (object ms) t order h = cc

given_utf8 : (name : List ℕ) (o : Option Data) (text : Option (List ℕ)) → IfSome o InOrder → where_given (text_at name) o ≡ Ok text → IfSome text IsUtf8
given_utf8 name None text order h = subst (λ t. IfSome t IsUtf8) (ok_same None text h) tt
given_utf8 name (Some d) text order h =
    let (t, at, is) = mapped (λ (x : List ℕ). Some x) (text_at name d) text h in
    subst (λ t. IfSome t IsUtf8) is (text_utf8 d t order (ok_or_some (as_str d) (refusal.Bad name) t at))

-- a member of a value in order is in order
member_order : (name : List ℕ) (d : Data) → InOrder d → IfSome (member_of name d) InOrder
member_order name d order = at (member_of name d) refl
  where
    at : (o : Option Data) → member_of name d ≡ o → IfSome o InOrder
    at None is = tt
    at (Some v) is = (has_in_order name d v order is).0

optional_utf8 : (name : List ℕ) (d : Data) (text : Option (List ℕ)) → InOrder d → optional_text name d ≡ Ok text → IfSome text IsUtf8
optional_utf8 name d text order h = given_utf8 name (member_of name d) text (member_order name d order) h

reason_utf8 : (d : Data) (said : StatusSaid) → InOrder d → status_said d ≡ Ok said → IfSome said.reason IsUtf8
reason_utf8 d said order h =
    let (reason, given, rest) = stepped (optional_text (codes "reason") d) _ said h in
    let (status, at, more) = stepped (status_in d) _ said rest in
    let (stream, named, is) = stepped (stream_in d) _ said more in
    subst (λ (s : StatusSaid). IfSome s.reason IsUtf8) (ok_same _ said is) (optional_utf8 (codes "reason") d reason order given)

subject_proper : (d : Data) (s : Subject) → InOrder d → depth d ≤ max_depth → subject_in d ≡ Ok s → IsProperSubject s
subject_proper d s order shallow h =
    let (v, at, is) = then_some (member_of (codes "subject") d) subject_at s (ok_or_some _ (refusal.Bad (codes "subject")) s h) in
    let inside = has_in_order (codes "subject") d v order at in
    reads_proper v s inside.0 (omega (arith, inside.1, shallow)) (ok_some (subject_of v) s is)

-- a call on a subject, and who makes it
record Selects (make : List ℕ → List ℕ → Subject → Call) (client : List ℕ) (made : Call) : Type 0 where
  stream : List ℕ
  subject : Subject
  proper : IsProperSubject subject
  is : make client stream subject ≡ made

selects : (make : List ℕ → List ℕ → Subject → Call) (client : List ℕ) (d : Data) (made : Call) → InOrder d → depth d ≤ max_depth → subject_call make client d ≡ Ok made → Selects make client made
selects make client d made order shallow h =
    let (stream, named, rest) = stepped (stream_in d) _ made h in
    let (subject, at, is) = stepped (subject_in d) _ made rest in
    record { stream = stream; subject = subject; proper = subject_proper d subject order shallow at; is = ok_same _ made is }

-- the object that a body spells
record Spelled (bytes : List ℕ) (d : Data) : Type 0 where
  spells : json_of bytes ≡ Some d
  order : InOrder d
  shallow : depth d ≤ max_depth

object_is : (v d : Data) → object_itself v ≡ Some d → v ≡ d
object_is null d h = cc
object_is (boolean b) d h = cc
object_is (number n) d h = cc
object_is (string s) d h = cc
object_is (array ds) d h = cc
object_is (object ms) d h = cc

spelled : (bytes : List ℕ) (d : Data) → object_in bytes ≡ Ok d → Spelled bytes d
spelled bytes d h =
    let (v, reads, is) = then_some (json_of bytes) object_itself d (ok_or_some _ (refusal.Bad (codes "body")) d h) in
    let spells : json_of bytes ≡ Some d = reads ∙ ap Some (object_is v d is) in
    let well = spells_in_order bytes d spells in
    record { spells = spells; order = well.0; shallow = well.1 }

-- ---- the calls of bodies

-- whose the call is, and that it is proper
record IsGood (request : Request) (rules : Rules) (who : Asker) (made : Call) : Type 0 where
  asks : asker_of made ≡ who
  proper : IsProperOf request rules made

good_as : (request : Request) (rules : Rules) (who : Asker) (one made : Call) → one ≡ made → asker_of one ≡ who → IsProperOf request rules one → IsGood request rules who made
good_as request rules who one made is asks proper = subst (λ c. IsGood request rules who c) is (record { asks = asks; proper = proper })

body_good : (b : BodyCall) (request : Request) (rules : Rules) (client : List ℕ) (d : Data) (made : Call) → Spelled request.body d
    → body_call b (is_some rules.gateway) client d ≡ Ok made → IsGood request rules (Named client) made
body_good body.Create request rules client d made s h =
    let (want, wanted, is) = creates (is_some rules.gateway) client d made h in
    good_as request rules (Named client) (call.Create client want) made is refl (d, s.spells, wanted)
body_good body.Patch request rules client d made s h =
    let c = changes call.Patch (is_some rules.gateway) client d made h in
    good_as request rules (Named client) (call.Patch client c.stream c.want) made c.is refl (d, s.spells, c.wanted)
body_good body.Put request rules client d made s h =
    let c = changes call.Put (is_some rules.gateway) client d made h in
    good_as request rules (Named client) (call.Put client c.stream c.want) made c.is refl (d, s.spells, c.wanted)
body_good body.SetStatus request rules client d made s h =
    let (said, at, is) = stepped (status_said d) _ made h in
    good_as request rules (Named client) (call.SetStatus client said.stream said.status said.reason) made (ok_same _ made is) refl (reason_utf8 d said s.order at)
body_good body.Add request rules client d made s h =
    let c = selects call.Add client d made s.order s.shallow h in
    good_as request rules (Named client) (call.Add client c.stream c.subject) made c.is refl c.proper
body_good body.Remove request rules client d made s h =
    let c = selects call.Remove client d made s.order s.shallow h in
    good_as request rules (Named client) (call.Remove client c.stream c.subject) made c.is refl c.proper
body_good body.Verify request rules client d made s h =
    let (stream, named, rest) = stepped (stream_in d) _ made h in
    let (state, at, is) = stepped (optional_text (codes "state") d) _ made rest in
    good_as request rules (Named client) (call.Verify client stream state) made (ok_same _ made is) refl (optional_utf8 (codes "state") d state s.order at)

operator_good : (o : OperatorCall) (request : Request) (rules : Rules) (d : Data) (made : Call) → Spelled request.body d → operator_call o d ≡ Ok made
    → IsGood request rules Operator made
operator_good operator.Publish request rules d made s h =
    let (id, news, is, named, proper) = reads_proper_publications d made s.order s.shallow (read_as place_in_publication (publish_of d) made h) in
    good_as request rules Operator (call.Publish id news) made (sym is) refl proper
operator_good operator.SetStatus request rules d made s h =
    let (said, at, is) = stepped (status_said d) _ made h in
    good_as request rules Operator (call.OperatorStatus said.stream said.status said.reason) made (ok_same _ made is) refl (reason_utf8 d said s.order at)
operator_good operator.Deliver request rules d made s h =
    let (stream, at, is) = mapped call.Deliver (stream_in d) made h in
    good_as request rules Operator (call.Deliver stream) made is refl tt

operator_query_good : (o : OperatorQuery) (request : Request) (rules : Rules) (made : Call) → operator_query o request.query ≡ Ok made
    → IsGood request rules Operator made
operator_query_good overseen.Delete request rules made h =
    let (stream, at, is) = mapped call.OperatorDelete (named_stream (value_in request.query (codes "stream_id"))) made h in
    good_as request rules Operator (call.OperatorDelete stream) made is refl tt
operator_query_good overseen.Streams request rules made h =
    let (from, at, is) = mapped call.Streams (place_of (value_in request.query (codes "from"))) made h in
    good_as request rules Operator (call.Streams from) made is refl tt
operator_query_good overseen.Refused request rules made h =
    let (from, at, is) = mapped call.Refused (place_of (value_in request.query (codes "from"))) made h in
    good_as request rules Operator (call.Refused from) made is refl tt
operator_query_good overseen.Figures request rules made h = good_as request rules Operator call.Figures made (ok_same _ made h) refl tt

query_proper : (q : QueryCall) (request : Request) (rules : Rules) (client : List ℕ) (stream : Option (List ℕ)) (made : Call) → query_call q client stream ≡ Ok made
    → IsProperOf request rules made
query_proper query.Read request rules client None made h = subst (IsProperOf request rules) (ok_same _ made h) tt
query_proper query.Read request rules client (Some stream) made h = subst (IsProperOf request rules) (ok_same _ made h) tt
query_proper query.Delete request rules client stream made h =
    let (x, at, is) = mapped (call.Delete client) (named_stream stream) made h in subst (IsProperOf request rules) is tt
query_proper query.GetStatus request rules client stream made h =
    let (x, at, is) = mapped (call.GetStatus client) (named_stream stream) made h in subst (IsProperOf request rules) is tt

-- ---- what is asked

record IsAsked (request : Request) (rules : Rules) (asked : Call) : Type 0 where
  may : MayAskAs rules request.bearer (asker_of asked)
  proper : IsProperOf request rules asked

-- a call that is made for whom it may be
asked_call : (request : Request) (rules : Rules) (who : Asker) (made : Call) → MayAskAs rules request.bearer who → asker_of made ≡ who
    → IsProperOf request rules made → IsAsked request rules made
asked_call request rules who made may asks proper = record { may = subst (MayAskAs rules request.bearer) (sym asks) may; proper = proper }

query_asked : (q : QueryCall) (request : Request) (rules : Rules) (asked : Call) → by_query q request rules ≡ Ok asked → IsAsked request rules asked
query_asked q request rules asked h =
    let (client, shown, reads) = stepped (client_by rules request) _ asked h in
    let named = value_in request.query (codes "stream_id") in
    asked_call request rules (Named client) asked (has_bearer request rules client shown) (query_asker q client named asked reads)
    (query_proper q request rules client named asked reads)

body_asked : (b : BodyCall) (request : Request) (rules : Rules) (asked : Call) → by_body b request rules ≡ Ok asked → IsAsked request rules asked
body_asked b request rules asked h =
    let (client, shown, rest) = stepped (client_by rules request) _ asked h in
    let (d, reads, says) = stepped (object_in request.body) _ asked rest in
    let good = body_good b request rules client d asked (spelled request.body d reads) says in
    asked_call request rules (Named client) asked (has_bearer request rules client shown) good.asks good.proper

-- a poll is the client's
poll_good : (request : Request) (rules : Rules) (client stream : List ℕ) (ask : Result PollAsk BodyFault) (made : Call) → poll_with client stream ask ≡ Ok made
    → IsGood request rules (Named client) made
poll_good request rules client stream (Ok ask) made h = good_as request rules (Named client) (call.Poll client stream ask) made (ok_same _ made h) refl tt
poll_good request rules client stream (Err (fault.Bad place)) made h = cc
poll_good request rules client stream (Err fault.Memory) made h = cc

poll_asked : (request : Request) (rules : Rules) (asked : Call) → by_poll request rules ≡ Ok asked → IsAsked request rules asked
poll_asked request rules asked h =
    let (client, shown, is) = stepped (client_by rules request) _ asked h in
    let good = poll_good request rules client (polled_in request.path) (ask_of request.body) asked is in
    asked_call request rules (Named client) asked (has_bearer request rules client shown) good.asks good.proper

operator_asked : (o : OperatorCall) (request : Request) (rules : Rules) (asked : Call) → by_operator o request rules ≡ Ok asked → IsAsked request rules asked
operator_asked o request rules asked h = at (shows request.bearer rules.operator) refl h
  where
    at : (t : Bool) → shows request.bearer rules.operator ≡ t → ◌≡◌ {A = Result Call HttpRefusal} (if t then operated o request else Err refusal.Auth) (Ok asked) → IsAsked request rules asked
    at false shown h = cc
    at true shown h =
        let (d, reads, says) = stepped (object_in request.body) _ asked h in
        let good = operator_good o request rules d asked (spelled request.body d reads) says in
        asked_call request rules Operator asked (is_shown request.bearer rules.operator shown) good.asks good.proper

operator_query_asked : (o : OperatorQuery) (request : Request) (rules : Rules) (asked : Call) → by_operator_query o request rules ≡ Ok asked → IsAsked request rules asked
operator_query_asked o request rules asked h = at (shows request.bearer rules.operator) refl h
  where
    at : (t : Bool) → shows request.bearer rules.operator ≡ t → ◌≡◌ {A = Result Call HttpRefusal} (if t then operator_query o request.query else Err refusal.Auth) (Ok asked) → IsAsked request rules asked
    at false shown h = cc
    at true shown h =
        let good = operator_query_good o request rules asked h in
        asked_call request rules Operator asked (is_shown request.bearer rules.operator shown) good.asks good.proper

route_asked : (r : Route) (request : Request) (rules : Rules) (asked : Call) → by_route r request rules ≡ Ok asked → IsAsked request rules asked
route_asked route.Metadata request rules asked h = subst (IsAsked request rules) (ok_same _ asked h) (record { may = tt; proper = tt })
route_asked (route.Query q) request rules asked h = query_asked q request rules asked h
route_asked (route.Body b) request rules asked h = body_asked b request rules asked h
route_asked route.Poll request rules asked h = poll_asked request rules asked h
route_asked (route.Operator o) request rules asked h = operator_asked o request rules asked h
route_asked (route.OperatorQuery o) request rules asked h = operator_query_asked o request rules asked h

is_asked : (request : Request) (rules : Rules) (asked : Call) → call_of request rules ≡ Ok asked → IsAsked request rules asked
is_asked request rules asked h =
    let (r, is, asks) = taken_apart request rules asked (sized request rules asked h).1 in
    route_asked r request rules asked asks

pub bearers_decide : BearersDecide
bearers_decide request rules asked h = (is_asked request rules asked h).may

pub requests_make_proper_calls : RequestsMakeProperCalls
requests_make_proper_calls request rules made h = (is_asked request rules made h).proper

-- ---- each for itself

some_same : {T : Type 0} (x y : T) → ◌≡◌ {A = Option T} (Some x) (Some y) → x ≡ y
some_same x y h = cc

for_client : (rules : Rules) (shown : Option (List ℕ)) (c : Client) (who : Asker) → AreApart rules → Contains rules.clients c → shown ≡ Some c.bearer → MayAskAs rules shown who → IsOf (Named c.name) who
for_client rules shown c Anybody apart inside shows may = tt
for_client rules shown c (Named name) apart inside shows (d, listed, named, has) =
    ap Named (sym named ∙ sym (apart.clients c d inside listed (some_same c.bearer d.bearer (sym shows ∙ has))))
for_client rules shown c Operator apart inside shows may = absurd (apart.operator c inside (some_same c.bearer rules.operator (sym shows ∙ may)))
for_client rules shown c Itself apart inside shows may = may

for_operator : (rules : Rules) (shown : Option (List ℕ)) (who : Asker) → AreApart rules → shown ≡ Some rules.operator → MayAskAs rules shown who → IsOf Operator who
for_operator rules shown Anybody apart shows may = tt
for_operator rules shown (Named name) apart shows (d, listed, named, has) = absurd (apart.operator d listed (some_same d.bearer rules.operator (sym has ∙ shows)))
for_operator rules shown Operator apart shows may = refl
for_operator rules shown Itself apart shows may = may

pub clients_ask_for_themselves : ClientsAskForThemselves
clients_ask_for_themselves request rules c asked apart inside shows h =
    for_client rules request.bearer c (asker_of asked) apart inside shows (bearers_decide request rules asked h)

pub operators_ask_for_themselves : OperatorsAskForThemselves
operators_ask_for_themselves request rules asked apart shows h =
    for_operator rules request.bearer (asker_of asked) apart shows (bearers_decide request rules asked h)
