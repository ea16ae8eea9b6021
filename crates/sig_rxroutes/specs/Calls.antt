-- Which call a request makes: by its route, its bearer, and what its query or its body says.
use Rattle.std.specs.Prelude.{ℕ, List, Bool, false, find, Option, Some, None, option_map, Result, Ok, Err, bytes_eq, codes, if◌then◌else◌}
use Rattle.sig_json.specs.Answers.{result_map}
use Rattle.sig_http.specs.Query.{value_in}
use Rattle.sig_http.specs.declared.fault.HttpRefusal.{HttpRefusal}
use Rattle.sig_http.specs.declared.fault.HttpRefusal.TheVariants as refusal
use Rattle.sig_http.specs.declared.message.Request.{Request}
use Rattle.sig_rxnode.specs.declared.call.RxCall.{RxCall}
use Rattle.sig_rxnode.specs.declared.call.RxCall.TheVariants as call
use Rattle.sig_rxnode.specs.declared.rules.Principal.{Principal}
use Rattle.sig_rxnode.specs.declared.rules.RxRules.{RxRules}
use Rattle.sig_rxroutes.specs.Asked.{place_of, subject_in}
use Rattle.sig_rxroutes.specs.Routes.{method_of, route_at}
use Rattle.sig_rxroutes.specs.declared.route.RxRoute.{RxRoute}
use Rattle.sig_rxroutes.specs.declared.route.RxRoute.TheVariants as route

-- ---- bearers (RFC 6750, section 2.1), compared byte for byte

-- the request shows this bearer
abbrev pub shows : Option (List ℕ) → List ℕ → Bool
shows None bearer = false
shows (Some shown) bearer = bytes_eq shown bearer

-- the issuer for whom the bearer that is shown may speak; of two principals with one bearer the first counts
abbrev pub issuer_by : List Principal → Option (List ℕ) → Option (List ℕ)
issuer_by principals shown = option_map (λ p. p.iss) (find (λ p. shows shown p.bearer) principals)

-- ---- the call of a route

-- a push (RFC 8935, section 2.1): the body is the token, which no poll listed
abbrev pub token_call : Request → RxRules → RxCall
token_call request rules = call.Token (issuer_by rules.principals request.bearer) None request.body

-- a page of the session table
abbrev pub rows_call : Request → Result RxCall HttpRefusal
rows_call request = result_map call.Rows (place_of (value_in request.query (codes "from")))

-- what the session table says of a subject
abbrev pub verdict_call : Request → Result RxCall HttpRefusal
verdict_call request = result_map call.Verdict (subject_in request.body)

-- what only the reader of the session table and of the figures may ask
abbrev pub for_reader : Request → RxRules → Result RxCall HttpRefusal → Result RxCall HttpRefusal
for_reader request rules read = if shows request.bearer rules.reader then read else Err refusal.Auth

abbrev pub by_route : RxRoute → Request → RxRules → Result RxCall HttpRefusal
by_route route.Push request rules = Ok (token_call request rules)
by_route route.Rows request rules = for_reader request rules (rows_call request)
by_route route.Check request rules = for_reader request rules (verdict_call request)
by_route route.Figures request rules = for_reader request rules (Ok call.Figures)

-- the route at the path is for its own method alone (RFC 9110, section 9.1: methods are told apart by case)
abbrev pub for_route : RxRoute → Request → RxRules → Result RxCall HttpRefusal
for_route r request rules =
    if bytes_eq request.method (method_of r) then by_route r request rules else Err (refusal.Method (method_of r))

abbrev pub at_route : Option RxRoute → Request → RxRules → Result RxCall HttpRefusal
at_route None request rules = Err refusal.Path
at_route (Some r) request rules = for_route r request rules

-- what a request asks of the receiver: first its path decides, then its method, its bearer, and last its query or its body
unfoldable pub call_of : Request → RxRules → Result RxCall HttpRefusal
call_of request rules = at_route (route_at request.path) request rules
