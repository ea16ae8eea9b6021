-- The routes of a receiver (RFC 8935, section 2; those of the session table are defined here), and which of them is at a path.
use Rattle.std.specs.Prelude.{ℕ, List, [], ◌∷◌, find, Option, bytes_eq, codes}
use Rattle.sig_rxroutes.specs.declared.route.RxRoute.{RxRoute}
use Rattle.sig_rxroutes.specs.declared.route.RxRoute.TheVariants as route

-- the table. A push makes its call under whatever bearer; the others are the reader's under its own
unfoldable pub method_of : RxRoute → List ℕ
method_of route.Push = codes "POST"
method_of route.Rows = codes "GET"
method_of route.Check = codes "POST"
method_of route.Figures = codes "GET"

unfoldable pub path_of : RxRoute → List ℕ
path_of route.Push = codes "/push"
path_of route.Rows = codes "/sessions"
path_of route.Check = codes "/sessions/check"
path_of route.Figures = codes "/metrics"

-- every route, in the order of the table
unfoldable pub routes : List RxRoute
routes = route.Push ∷ route.Rows ∷ route.Check ∷ route.Figures ∷ []

-- the route at a path; each path has one
abbrev pub route_at : List ℕ → Option RxRoute
route_at path = find (λ r. bytes_eq path (path_of r)) routes
