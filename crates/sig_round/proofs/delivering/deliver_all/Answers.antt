use Rattle.std.proofs.Common.{rules, ◌≡◌, ◌<◌, ◌≤◌, ◌∙◌, length, Err, arith}
use Rattle.sig_round.proofs.GoingOn.{goes_next, goes_no_further, goes_to_the_end}
use Rattle.sig_round.proofs.delivering.deliver_all.Goals as goal

pub returns-in_err-deliver-clause-delivered : goal.returns-in_err-deliver-clause-delivered
returns-in_err-deliver-clause-delivered g c =
    let is : c.from_residual.result ≡ Err c.in_err-deliver.field-0.0 = search rules in
    let h : c.loop-token.token-index < length c.args.tokens.now = omega arith in
    rw is (goes_no_further c.args.rules.now _ _ _ _ c.args.tokens.now c.loop-token.token-index c.token-item.result _ _ _ _ _ _ _ _ _ c.in_err-deliver.field-0.0
    h c.token-item.is c.loop-token.invariant.link c.loop-token.invariant.now c.loop-token.invariant.goes_on c.in_err-deliver.ensures.delivered)

pub loop-token-preserved : goal.loop-token-preserved
loop-token-preserved g c =
    let h : c.loop-token.token-index < length c.args.tokens.now = omega arith in
    record {
      goes_on = goes_next c.args.rules.now _ _ _ _ c.args.tokens.now c.loop-token.token-index c.token-item.result _ _ _ _ _ _ _ _ _ _
          h c.token-item.is c.loop-token.invariant.link c.loop-token.invariant.now c.loop-token.invariant.goes_on c.in_ok-deliver.ensures.delivered;
      link = c.in_ok-deliver.ensures.link ∙ c.loop-token.invariant.link;
      now = c.in_ok-deliver.ensures.now ∙ c.loop-token.invariant.now;
    }

pub returns-clause-delivered : goal.returns-clause-delivered
returns-clause-delivered g c =
    let h : length c.args.tokens.now ≤ c.loop-token.token-index = omega arith in
    goes_to_the_end c.args.rules.now _ c.args.tokens.now c.loop-token.token-index _ _ _ _ _ _ _ h c.loop-token.invariant.goes_on
