-- Which route a method and a path are for, and who is found by a bearer.
use Rattle.std.proofs.Common.{◌≡◌, ◌∙◌, ap, subst, lit<, ℕ, List, [], ◌∷◌, Bool, true, false, Option, Some, None, refl, cond, find, inl, inr, arith}
use Rattle.std.specs.Prelude.{Result, Ok, Err, bytes_eq, if◌then◌else◌, Contains}
use Rattle.std.proofs.lemmas.List.Elements.{Contains-append_cases, Contains-append_left, Contains-append_right, Contains-push_cases}
use Rattle.std.proofs.lemmas.Slice.Eq.{bytes_eq-Decides}
use Rattle.sig_http.specs.declared.fault.HttpRefusal.{HttpRefusal}
use Rattle.sig_http.specs.declared.fault.HttpRefusal.TheVariants as refusal
use Rattle.sig_http.specs.declared.message.Request.{Request}
use Rattle.sig_rxnode.specs.declared.call.RxCall.{RxCall}
use Rattle.sig_rxnode.specs.declared.rules.RxRules.{RxRules}
use Rattle.sig_rxroutes.specs.Calls.{at_route, by_route, call_of}
use Rattle.sig_rxroutes.specs.Laws.{IsFor, PushesAreRead, RoutesExactly}
use Rattle.sig_rxroutes.specs.Routes.{method_of, path_of, route_at, routes}
use Rattle.sig_rxroutes.specs.declared.route.RxRoute.{RxRoute}
use Rattle.sig_rxroutes.specs.declared.route.RxRoute.TheVariants as route

pub text_is : (a b : List ℕ) → bytes_eq a b ≡ true → a ≡ b
text_is a b h = (bytes_eq-Decides a b).0 h

-- ---- what is found in a list

-- it is there, and passes
pub found_is : {X : Type 0} (p : X → Bool) (xs : List X) (x : X) → find p xs ≡ Some x → Contains xs x × (p x ≡ true)
found_is p [] x h = cc
found_is p (y ∷ ys) x h = at (p y) refl (found_is p ys x) h
  where
    at : (b : Bool) → p y ≡ b → (find p ys ≡ Some x → Contains ys x × (p x ≡ true)) → cond b (Some y) (find p ys) ≡ Some x → Contains (y ∷ ys) x × (p x ≡ true)
    at true passes rest here =
        let same : y ≡ x = cc in
        (subst (λ z. Contains (y ∷ ys) z) same (Contains-append_left (y ∷ []) ys y (0, lit< tt, refl)), subst (λ z. p z ≡ true) same passes)
    at false passes rest later = (Contains-append_right (y ∷ []) ys x (rest later).0, (rest later).1)

-- where nothing is, nothing passes
pub none_passes : {X : Type 0} (p : X → Bool) (xs : List X) (x : X) → find p xs ≡ None → Contains xs x → p x ≡ false
none_passes p [] x h (k, below, is) = absurd (omega (arith, below))
none_passes p (y ∷ ys) x h inside = at (p y) refl (none_passes p ys x) h
  where
    alone : p y ≡ false → Contains (y ∷ []) x → p x ≡ false
    alone fails here = elim (Contains-push_cases [] y x here) [ inl (k, below, is) ↦ absurd (omega (arith, below)) | inr same ↦ subst (λ z. p z ≡ false) same fails ]

    at : (b : Bool) → p y ≡ b → (find p ys ≡ None → Contains ys x → p x ≡ false) → cond b (Some y) (find p ys) ≡ None → p x ≡ false
    at true passes rest none = cc
    at false fails rest none = elim (Contains-append_cases (y ∷ []) ys x inside) [ inl here ↦ alone fails here | inr later ↦ rest none later ]

-- ---- routes

-- the route at a path has it
path_is : (path : List ℕ) (r : RxRoute) → route_at path ≡ Some r → path ≡ path_of r
path_is path r h = text_is path (path_of r) (found_is (λ r. bytes_eq path (path_of r)) routes r h).1

-- and is at it
at_path : (r : RxRoute) → route_at (path_of r) ≡ Some r
unfolding path_of routes
at_path route.Push = refl
at_path route.Rows = refl
at_path route.Check = refl
at_path route.Figures = refl

forth : (request : Request) (rules : RxRules) (asked : RxCall) → call_of request rules ≡ Ok asked → IsFor request rules asked
unfolding call_of
forth request rules asked h = at (route_at request.path) refl h
  where
    of : (r : RxRoute) → route_at request.path ≡ Some r → (b : Bool) → bytes_eq request.method (method_of r) ≡ b
        → ◌≡◌ {A = Result RxCall HttpRefusal} (if b then by_route r request rules else Err (refusal.Method (method_of r))) (Ok asked) → IsFor request rules asked
    of r here false other h = cc
    of r here true same h = record { route = r; method = text_is request.method (method_of r) same; path = path_is request.path r here; asks = h }

    at : (o : Option RxRoute) → route_at request.path ≡ o → at_route o request rules ≡ Ok asked → IsFor request rules asked
    at None here h = cc
    at (Some r) here h = of r here (bytes_eq request.method (method_of r)) refl h

-- a request for a route is read as the route reads it
read_at : (request : Request) (rules : RxRules) (r : RxRoute) → request.method ≡ method_of r → request.path ≡ path_of r → call_of request rules ≡ by_route r request rules
unfolding call_of
read_at request rules r method path =
    let here : route_at request.path ≡ Some r = ap route_at path ∙ at_path r in
    let same : bytes_eq request.method (method_of r) ≡ true = (bytes_eq-Decides request.method (method_of r)).1 method in
    ap (λ o. at_route o request rules) here ∙ ap (λ b. if b then by_route r request rules else Err (refusal.Method (method_of r))) same

pub routes_exactly : RoutesExactly
routes_exactly request rules asked = (forth request rules asked, λ is. read_at request rules is.route is.method is.path ∙ is.asks)

pub pushes_are_read : PushesAreRead
unfolding method_of path_of
pushes_are_read request rules method path = read_at request rules route.Push method path
