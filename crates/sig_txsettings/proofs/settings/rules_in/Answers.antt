use Rattle.std.proofs.Common.{◌≡◌}
use Rattle.std.proofs.lemmas.Result.{err_from_is_err_and}
use Rattle.serde_json.specs.View.{view}
use Rattle.sig_txsettings.proofs.RuleSteps.{Begun, all_read, clients_refused, gateway_refused}
use Rattle.sig_txsettings.proofs.settings.rules_in.Goals as goal

pub returns-in_err-clients : goal.returns-in_err-clients
returns-in_err-clients c =
    let begun : Begun (view c.args.settings.now) c.in_ok-operator.operator c.in_ok-defaults.defaults c.in_ok-interval.interval c.in_ok-key.key =
    record { operator_is = c.in_ok-operator.ensures; defaults_is = c.in_ok-defaults.ensures; interval_is = c.in_ok-interval.ensures; key_is = c.in_ok-key.ensures } in
    let p = err_from_is_err_and c.from_residual-in_err-clients.result c.from_residual-in_err-clients.ensures.1 in
    rw (p.1, p.2) (clients_refused _ _ _ _ _ _ _ _ _ begun c.in_err-clients.ensures)

pub returns-in_err-gateway : goal.returns-in_err-gateway
returns-in_err-gateway c =
    let begun : Begun (view c.args.settings.now) c.in_ok-operator.operator c.in_ok-defaults.defaults c.in_ok-interval.interval c.in_ok-key.key =
    record { operator_is = c.in_ok-operator.ensures; defaults_is = c.in_ok-defaults.ensures; interval_is = c.in_ok-interval.ensures; key_is = c.in_ok-key.ensures } in
    let p = err_from_is_err_and c.from_residual-in_err-gateway.result c.from_residual-in_err-gateway.ensures.1 in
    rw (p.1, p.2) (gateway_refused _ _ _ _ _ _ _ _ _ _ begun c.in_ok-clients.ensures c.in_err-gateway.ensures)

pub returns : goal.returns
returns c =
    let begun : Begun (view c.args.settings.now) c.in_ok-operator.operator c.in_ok-defaults.defaults c.in_ok-interval.interval c.in_ok-key.key =
    record { operator_is = c.in_ok-operator.ensures; defaults_is = c.in_ok-defaults.ensures; interval_is = c.in_ok-interval.ensures; key_is = c.in_ok-key.ensures } in
    all_read _ _ _ _ _ _ _ _ _ begun c.in_ok-clients.ensures c.in_ok-gateway.ensures
