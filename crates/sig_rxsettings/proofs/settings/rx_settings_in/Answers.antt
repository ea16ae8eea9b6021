use Rattle.std.proofs.Common.{◌≡◌}
use Rattle.std.proofs.lemmas.Result.{err_from_is_err_and}
use Rattle.serde_json.specs.View.{view}
use Rattle.sig_rxsettings.proofs.SettingSteps.{Begun, all_read, gateway_refused, peer_read}
use Rattle.sig_rxsettings.proofs.settings.rx_settings_in.Goals as goal

pub returns-in_err-gateway : goal.returns-in_err-gateway
returns-in_err-gateway c =
    let begun : Begun (view c.args.settings.now) c.in_ok-audience.audience c.in_ok-listen.listen c.in_ok-reader.reader c.in_ok-issuers.issuers c.in_ok-principals.principals c.in_ok-peer.peer =
    record { audience_is = c.in_ok-audience.ensures; listen_is = c.in_ok-listen.ensures; reader_is = c.in_ok-reader.ensures; issuers_is = c.in_ok-issuers.ensures; principals_is = c.in_ok-principals.ensures; peer_is = peer_read c.in_ok-reader.reader c.in_ok-principals.principals _ (view c.args.settings.now) c.in_ok-peer.peer c.as_slice.ensures c.in_ok-peer.ensures } in
    let p = err_from_is_err_and c.from_residual-in_err-gateway.result c.from_residual-in_err-gateway.ensures.1 in
    rw (p.1, p.2) (gateway_refused _ _ _ _ _ _ _ _ _ begun c.in_err-gateway.ensures)

pub returns : goal.returns
returns c =
    let begun : Begun (view c.args.settings.now) c.in_ok-audience.audience c.in_ok-listen.listen c.in_ok-reader.reader c.in_ok-issuers.issuers c.in_ok-principals.principals c.in_ok-peer.peer =
    record { audience_is = c.in_ok-audience.ensures; listen_is = c.in_ok-listen.ensures; reader_is = c.in_ok-reader.ensures; issuers_is = c.in_ok-issuers.ensures; principals_is = c.in_ok-principals.ensures; peer_is = peer_read c.in_ok-reader.reader c.in_ok-principals.principals _ (view c.args.settings.now) c.in_ok-peer.peer c.as_slice.ensures c.in_ok-peer.ensures } in
    all_read _ _ _ _ _ _ _ _ _ begun c.in_ok-gateway.ensures c.with_gateway.ensures
