use Rattle.std.proofs.lemmas.Result.{err_from_is_err_and}
use Rattle.serde_json.specs.View.{view}
use Rattle.sig_declared.proofs.SettingSteps.{Begun, all_read, gateway_refused}
use Rattle.sig_declared.proofs.settings.manage_settings_in.Goals as goal

pub returns-in_err-gateway : goal.returns-in_err-gateway
returns-in_err-gateway c =
    let begun : Begun (view c.args.settings.now) c.in_ok-bearer.bearer c.in_ok-endpoint.endpoint c.in_ok-declared.declared =
    record { bearer_is = c.in_ok-bearer.ensures; endpoint_is = c.in_ok-endpoint.ensures; declared_is = c.in_ok-declared.ensures } in
    let p = err_from_is_err_and c.from_residual-in_err-gateway.result c.from_residual-in_err-gateway.ensures.1 in
    rw (p.1, p.2) (gateway_refused _ _ _ _ _ _ begun c.in_err-gateway.ensures)

pub returns : goal.returns
returns c =
    let begun : Begun (view c.args.settings.now) c.in_ok-bearer.bearer c.in_ok-endpoint.endpoint c.in_ok-declared.declared =
    record { bearer_is = c.in_ok-bearer.ensures; endpoint_is = c.in_ok-endpoint.ensures; declared_is = c.in_ok-declared.ensures } in
    all_read _ _ _ _ _ _ begun c.in_ok-gateway.ensures c.provider_of.ensures
