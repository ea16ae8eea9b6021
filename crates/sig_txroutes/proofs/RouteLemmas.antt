-- Which route a method and a path are for: the one of the table with both.
use Rattle.std.proofs.Common.{◌≡◌, ◌∙◌, ap, sym, subst, lit<, ℕ, List, [], ◌∷◌, ◌++◌, Bool, true, false, Option, Some, None, refl, cond, find, take, drop, codes}
use Rattle.std.specs.Prelude.{Result, Ok, Err, ok_or, bytes_eq, nat_eq, if◌then◌else◌, Contains}
use Rattle.std.specs.List.{starts_with}
use Rattle.std.proofs.lemmas.Bool.{and_parts}
use Rattle.std.proofs.lemmas.List.{take-append-drop}
use Rattle.std.proofs.lemmas.List.Elements.{Contains-append_left, Contains-append_right}
use Rattle.std.proofs.lemmas.Slice.Eq.{bytes_eq-Decides}
use Rattle.sig_http.specs.declared.fault.HttpRefusal.{HttpRefusal}
use Rattle.sig_http.specs.declared.fault.HttpRefusal.TheVariants as refusal
use Rattle.sig_txroutes.specs.Routes.{allowed, is_at, is_for, is_known, method_of, route_for, routes, row_of}
use Rattle.sig_txroutes.specs.declared.route.Route.{Route}
use Rattle.sig_txroutes.specs.declared.route.Route.TheVariants as route
use Rattle.sig_txroutes.specs.declared.route.QueryCall.TheVariants as query
use Rattle.sig_txroutes.specs.declared.route.BodyCall.TheVariants as body
use Rattle.sig_txroutes.specs.declared.route.OperatorCall.TheVariants as operator
use Rattle.sig_txroutes.specs.declared.route.OperatorQuery.TheVariants as overseen

pub text_is : (a b : List ℕ) → bytes_eq a b ≡ true → a ≡ b
text_is a b h = (bytes_eq-Decides a b).0 h

-- what is found is in the list and passes
pub found_is : {X : Type 0} (p : X → Bool) (xs : List X) (x : X) → find p xs ≡ Some x → Contains xs x × (p x ≡ true)
found_is p [] x h = cc
found_is p (y ∷ ys) x h = at (p y) refl (found_is p ys x) h
  where
    at : (b : Bool) → p y ≡ b → (find p ys ≡ Some x → Contains ys x × (p x ≡ true)) → cond b (Some y) (find p ys) ≡ Some x → Contains (y ∷ ys) x × (p x ≡ true)
    at true passes rest here =
        let same : y ≡ x = cc in
        (subst (λ z. Contains (y ∷ ys) z) same (Contains-append_left (y ∷ []) ys y (0, lit< tt, refl)), subst (λ z. p z ≡ true) same passes)
    at false passes rest later = (Contains-append_right (y ∷ []) ys x (rest later).0, (rest later).1)

pub ok_or_some : {T E : Type 0} (o : Option T) (e : E) (x : T) → ok_or o e ≡ Ok x → o ≡ Some x
ok_or_some None e x h = cc
ok_or_some (Some y) e x h = cc

-- the route that is found has the method, and is at the path
pub route_is : (method path : List ℕ) (r : Route) → route_for method path ≡ Ok r → (method ≡ method_of r) × (is_at path r ≡ true)
route_is method path r h = at (is_known path) h
  where
    at : (known : Bool) → ◌≡◌ {A = Result Route HttpRefusal} (if known then ok_or (find (is_for method path) routes) (refusal.Method (allowed path)) else Err refusal.Path) (Ok r)
        → (method ≡ method_of r) × (is_at path r ≡ true)
    at false h = cc
    at true h =
        let here = found_is (is_for method path) routes r (ok_or_some (find (is_for method path) routes) (refusal.Method (allowed path)) r h) in
        let both = and_parts (bytes_eq method (method_of r)) (is_at path r) here.1 in
        (text_is method (method_of r) both.0, both.1)

-- the path of a route without a name
exactly : (r : Route) (path text : List ℕ) → bytes_eq path text ≡ true → route_for (method_of r) text ≡ Ok r → route_for (method_of r) path ≡ Ok r
exactly r path text h is = subst (λ p. route_for (method_of r) p ≡ Ok r) (sym (text_is path text h)) is

-- a path that goes on from `/poll/`
goes_on : (path : List ℕ) → starts_with nat_eq path (codes "/poll/") ≡ true → path ≡ codes "/poll/" ++ drop 6 path
goes_on path h = sym (take-append-drop 6 path) ∙ ap (λ front. front ++ drop 6 path) (sym (text_is (codes "/poll/") (take 6 path) h))

polled : (rest : List ℕ) → route_for (codes "POST") (codes "/poll/" ++ rest) ≡ Ok route.Poll
unfolding row_of routes
polled rest = refl

-- a route at the path is found by its method
pub route_at : (r : Route) (path : List ℕ) → is_at path r ≡ true → route_for (method_of r) path ≡ Ok r
unfolding row_of routes
route_at route.Metadata path h = exactly route.Metadata path (codes "/.well-known/ssf-configuration") h refl
route_at (route.Query query.Read) path h = exactly (route.Query query.Read) path (codes "/ssf/stream") h refl
route_at (route.Query query.Delete) path h = exactly (route.Query query.Delete) path (codes "/ssf/stream") h refl
route_at (route.Query query.GetStatus) path h = exactly (route.Query query.GetStatus) path (codes "/ssf/status") h refl
route_at (route.Body body.Create) path h = exactly (route.Body body.Create) path (codes "/ssf/stream") h refl
route_at (route.Body body.Patch) path h = exactly (route.Body body.Patch) path (codes "/ssf/stream") h refl
route_at (route.Body body.Put) path h = exactly (route.Body body.Put) path (codes "/ssf/stream") h refl
route_at (route.Body body.SetStatus) path h = exactly (route.Body body.SetStatus) path (codes "/ssf/status") h refl
route_at (route.Body body.Add) path h = exactly (route.Body body.Add) path (codes "/ssf/subjects/add") h refl
route_at (route.Body body.Remove) path h = exactly (route.Body body.Remove) path (codes "/ssf/subjects/remove") h refl
route_at (route.Body body.Verify) path h = exactly (route.Body body.Verify) path (codes "/ssf/verification") h refl
route_at route.Poll path h = subst (λ p. route_for (codes "POST") p ≡ Ok route.Poll) (sym (goes_on path h)) (polled (drop 6 path))
route_at (route.Operator operator.Publish) path h = exactly (route.Operator operator.Publish) path (codes "/operator/publish") h refl
route_at (route.Operator operator.SetStatus) path h = exactly (route.Operator operator.SetStatus) path (codes "/operator/status") h refl
route_at (route.Operator operator.Deliver) path h = exactly (route.Operator operator.Deliver) path (codes "/operator/deliver") h refl
route_at (route.OperatorQuery overseen.Delete) path h = exactly (route.OperatorQuery overseen.Delete) path (codes "/operator/stream") h refl
route_at (route.OperatorQuery overseen.Streams) path h = exactly (route.OperatorQuery overseen.Streams) path (codes "/operator/streams") h refl
route_at (route.OperatorQuery overseen.Refused) path h = exactly (route.OperatorQuery overseen.Refused) path (codes "/operator/refused") h refl
route_at (route.OperatorQuery overseen.Figures) path h = exactly (route.OperatorQuery overseen.Figures) path (codes "/operator/metrics") h refl
