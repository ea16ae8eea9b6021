use Rattle.std.proofs.Common.{rules, ◌≡◌, Err}
use Rattle.sig_round.proofs.OnePush.{delivered_failed, delivered_settled, delivered_stopped}
use Rattle.sig_round.proofs.delivering.deliver.Goals as goal

pub returns-in_err-outcome-clause-delivered : goal.returns-in_err-outcome-clause-delivered
returns-in_err-outcome-clause-delivered g c =
    let is : c.from_residual.result ≡ Err c.in_err-outcome.field-0.0 = search rules in
    let e = c.in_err-outcome.ensures in
    rw is (delivered_failed c.args.rules.now _ c.args.token.now _ _ _ _ _ _ _ _ _ _ c.in_err-outcome.field-0.0
    (record { no_endpoint = e.no_endpoint; no_gateway = e.no_gateway }) e.sends e.hears e.times e.counts)

pub returns-in-Ok-clause-delivered : goal.returns-in-Ok-clause-delivered
returns-in-Ok-clause-delivered g c =
    let e = c.in_ok-outcome.ensures in
    delivered_settled c.args.rules.now _ c.args.token.now _ _ _ _ _ _ _ _ _ _ _ _ c.in_ok-outcome.outcome _
    (record { no_endpoint = e.no_endpoint; no_gateway = e.no_gateway }) e.sends e.hears e.times e.counts c.in-Ok.ensures.asked

pub returns-in-Err-clause-delivered : goal.returns-in-Err-clause-delivered
returns-in-Err-clause-delivered g c =
    let e = c.in_ok-outcome.ensures in
    delivered_stopped c.args.rules.now _ c.args.token.now _ _ _ _ _ _ _ _ _ _ _ _ c.in_ok-outcome.outcome
    (record { no_endpoint = e.no_endpoint; no_gateway = e.no_gateway }) e.sends e.hears e.times e.counts c.in-Err.ensures.memory
