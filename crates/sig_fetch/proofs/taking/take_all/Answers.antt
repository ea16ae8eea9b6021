use Rattle.std.proofs.Common.{rules, ◌≡◌, ◌<◌, ◌≤◌, length, Err, arith}
use Rattle.sig_fetch.proofs.Halting.{halts_on}
use Rattle.sig_fetch.proofs.TakenLemmas.{goes_next, goes_no_further, goes_to_the_end}
use Rattle.sig_fetch.proofs.taking.take_all.Goals as goal

pub loop-token-preserved : goal.loop-token-preserved
loop-token-preserved g c =
    let h : c.loop-token.token-index < length c.args.tokens.now = omega arith in
    record {
      goes_on = goes_next c.args.peer.now c.args.tokens.now c.loop-token.token-index c.token-item.result _ _ _ _ _ _ _ h c.token-item.is c.loop-token.invariant.goes_on c.in_ok-take_one.ensures.taken;
      halts = halts_on _ _ _ _ _ _ _ c.loop-token.invariant.halts c.in_ok-take_one.ensures.halts;
    }

pub returns-in_err-take_one-clause-taken : goal.returns-in_err-take_one-clause-taken
returns-in_err-take_one-clause-taken g c =
    let is : c.from_residual.result ≡ Err c.in_err-take_one.field-0.0 = search rules in
    let h : c.loop-token.token-index < length c.args.tokens.now = omega arith in
    rw is (goes_no_further c.args.peer.now c.args.tokens.now c.loop-token.token-index c.token-item.result _ _ _ _ _ _ c.in_err-take_one.field-0.0 h c.token-item.is c.loop-token.invariant.goes_on c.in_err-take_one.ensures.taken)

pub returns-in_err-take_one-clause-halts : goal.returns-in_err-take_one-clause-halts
returns-in_err-take_one-clause-halts g c =
    let is : c.from_residual.result ≡ Err c.in_err-take_one.field-0.0 = search rules in
    rw is (halts_on _ _ _ _ _ _ _ c.loop-token.invariant.halts c.in_err-take_one.ensures.halts)

pub returns-clause-taken : goal.returns-clause-taken
returns-clause-taken g c =
    let h : length c.args.tokens.now ≤ c.loop-token.token-index = omega arith in
    goes_to_the_end c.args.peer.now c.args.tokens.now c.loop-token.token-index _ _ _ _ _ h c.loop-token.invariant.goes_on
