-- The routes of a transmitter (OpenID Shared Signals Framework 1.0, sections 7.1 and 8.1; RFC 8936, section 2), and which of them a
-- request is for.
use Rattle.std.specs.Prelude.{ℕ, List, [], ◌∷◌, map, find, length, drop, Bool, true, false, ◌&&◌, nat_eq, Result, Err, ok_or, bytes_eq, codes, if◌then◌else◌}
use Rattle.std.specs.List.{filter, join_by, list_any, starts_with}
use Rattle.sig_http.specs.declared.fault.HttpRefusal.{HttpRefusal}
use Rattle.sig_http.specs.declared.fault.HttpRefusal.TheVariants as refusal
use Rattle.sig_txroutes.specs.declared.route.Route.{Route}
use Rattle.sig_txroutes.specs.declared.route.Route.TheVariants as route
use Rattle.sig_txroutes.specs.declared.route.QueryCall.TheVariants as query
use Rattle.sig_txroutes.specs.declared.route.BodyCall.TheVariants as body
use Rattle.sig_txroutes.specs.declared.route.OperatorCall.TheVariants as operator
use Rattle.sig_txroutes.specs.declared.route.OperatorQuery.TheVariants as overseen

-- a row of the table: the method, the path, and whether a stream's name follows that path
pub record Row : Type 0 where
  pub method : List ℕ
  pub path : List ℕ
  pub named : Bool

abbrev pub at : List ℕ → List ℕ → Row
at method path = record { method = method; path = path; named = false }

abbrev pub under : List ℕ → List ℕ → Row
under method path = record { method = method; path = path; named = true }

-- the table. Anybody makes the call of the first route; those of a query, of a body and of a poll are a client's under its bearer, and
-- the others the operator's under its own
unfoldable pub row_of : Route → Row
row_of route.Metadata = at (codes "GET") (codes "/.well-known/ssf-configuration")
row_of (route.Body body.Create) = at (codes "POST") (codes "/ssf/stream")
row_of (route.Query query.Read) = at (codes "GET") (codes "/ssf/stream")
row_of (route.Body body.Patch) = at (codes "PATCH") (codes "/ssf/stream")
row_of (route.Body body.Put) = at (codes "PUT") (codes "/ssf/stream")
row_of (route.Query query.Delete) = at (codes "DELETE") (codes "/ssf/stream")
row_of (route.Query query.GetStatus) = at (codes "GET") (codes "/ssf/status")
row_of (route.Body body.SetStatus) = at (codes "POST") (codes "/ssf/status")
row_of (route.Body body.Add) = at (codes "POST") (codes "/ssf/subjects/add")
row_of (route.Body body.Remove) = at (codes "POST") (codes "/ssf/subjects/remove")
row_of (route.Body body.Verify) = at (codes "POST") (codes "/ssf/verification")
row_of route.Poll = under (codes "POST") (codes "/poll/")
row_of (route.Operator operator.Publish) = at (codes "POST") (codes "/operator/publish")
row_of (route.Operator operator.SetStatus) = at (codes "POST") (codes "/operator/status")
row_of (route.Operator operator.Deliver) = at (codes "POST") (codes "/operator/deliver")
row_of (route.OperatorQuery overseen.Delete) = at (codes "DELETE") (codes "/operator/stream")
row_of (route.OperatorQuery overseen.Streams) = at (codes "GET") (codes "/operator/streams")
row_of (route.OperatorQuery overseen.Refused) = at (codes "GET") (codes "/operator/refused")
row_of (route.OperatorQuery overseen.Figures) = at (codes "GET") (codes "/operator/metrics")

-- every route, in the order of the table
unfoldable pub routes : List Route
routes =
    route.Metadata
    ∷ route.Body body.Create ∷ route.Query query.Read ∷ route.Body body.Patch ∷ route.Body body.Put ∷ route.Query query.Delete
    ∷ route.Query query.GetStatus ∷ route.Body body.SetStatus
    ∷ route.Body body.Add ∷ route.Body body.Remove
    ∷ route.Body body.Verify
    ∷ route.Poll
    ∷ route.Operator operator.Publish ∷ route.Operator operator.SetStatus ∷ route.Operator operator.Deliver
    ∷ route.OperatorQuery overseen.Delete ∷ route.OperatorQuery overseen.Streams ∷ route.OperatorQuery overseen.Refused
    ∷ route.OperatorQuery overseen.Figures
    ∷ []

-- the path is the row's, or goes on from it with a stream's name
abbrev pub fits_row : List ℕ → Row → Bool
fits_row path row = if row.named then starts_with nat_eq path row.path else bytes_eq path row.path

abbrev pub is_at : List ℕ → Route → Bool
is_at path r = fits_row path (row_of r)

abbrev pub method_of : Route → List ℕ
method_of r = (row_of r).method

-- a route of this method at this path (RFC 9110, section 9.1: methods are told apart by case)
abbrev pub is_for : List ℕ → List ℕ → Route → Bool
is_for method path r = bytes_eq method (method_of r) && is_at path r

-- some route is at the path
abbrev pub is_known : List ℕ → Bool
is_known path = list_any (is_at path) routes

-- the methods of the routes at a path, as the field `allow` lists them (RFC 9110, section 10.2.1)
abbrev pub methods_at : List ℕ → List (List ℕ)
methods_at path = map method_of (filter (is_at path) routes)

abbrev pub allowed : List ℕ → List ℕ
allowed path = join_by (λ m. m) (codes ", ") (methods_at path)

-- the route of a request, or why there is none: its path is none of a route, or no route at that path has its method
abbrev pub route_for : List ℕ → List ℕ → Result Route HttpRefusal
route_for method path =
    if is_known path then ok_or (find (is_for method path) routes) (refusal.Method (allowed path)) else Err refusal.Path

-- the stream's name in the path of a poll: what follows `/poll/`, as it stands
abbrev pub polled_in : List ℕ → List ℕ
polled_in path = if starts_with nat_eq path (codes "/poll/") then drop (length (codes "/poll/")) path else []
