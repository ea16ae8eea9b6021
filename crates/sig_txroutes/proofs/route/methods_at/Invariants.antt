use Rattle.std.proofs.Common.{◌≡◌, ◌++◌, map, drop}
use Rattle.std.specs.List.{filter}
use Rattle.sig_txroutes.specs.Routes.{is_at, method_of}
use Rattle.sig_txroutes.proofs.route.methods_at.Given as goal

abbrev pub invariant-loop-route : goal.invariant-loop-route
invariant-loop-route l =
    map method_of (filter (is_at l.path) l.route-items)
    ≡ map (λ m. m.now) l.methods.items ++ map method_of (filter (is_at l.path) (drop l.route-index l.route-items))
