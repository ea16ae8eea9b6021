use Rattle.std.proofs.Common.{rules, ◌≡◌, ◌<◌, ◌≤◌, ◌∙◌, length, Err, arith}
use Rattle.sig_round.proofs.MoreRounds.{last_round, next_round, no_more_rounds}
use Rattle.sig_round.proofs.round.push_rounds.Goals as goal

pub returns-in_err-round_or_pass-clause-rounds : goal.returns-in_err-round_or_pass-clause-rounds
returns-in_err-round_or_pass-clause-rounds g c =
    let is : c.from_residual.result ≡ Err c.in_err-round_or_pass.field-0.0 = search rules in
    let h : c.loop-stream.stream-index < length c.args.streams.now = omega arith in
    rw is (no_more_rounds g.K.Passing.passes c.args.rules.now _ _ _ _ c.args.streams.now c.loop-stream.stream-index c.stream-item.result _ _ _ _ _ _ _ _ _
    h c.stream-item.is c.loop-stream.invariant.link c.loop-stream.invariant.now c.loop-stream.invariant.goes_on c.in_err-round_or_pass.ensures.rounds)

pub loop-stream-preserved : goal.loop-stream-preserved
loop-stream-preserved g c =
    let h : c.loop-stream.stream-index < length c.args.streams.now = omega arith in
    record {
      goes_on = next_round g.K.Passing.passes c.args.rules.now _ _ _ _ c.args.streams.now c.loop-stream.stream-index c.stream-item.result _ _ _ _ _ _ _ _ _
          h c.stream-item.is c.loop-stream.invariant.link c.loop-stream.invariant.now c.loop-stream.invariant.goes_on c.in_ok-round_or_pass.ensures.rounds;
      link = c.in_ok-round_or_pass.ensures.link ∙ c.loop-stream.invariant.link;
      now = c.in_ok-round_or_pass.ensures.now ∙ c.loop-stream.invariant.now;
    }

pub returns-clause-rounds : goal.returns-clause-rounds
returns-clause-rounds g c =
    let h : length c.args.streams.now ≤ c.loop-stream.stream-index = omega arith in
    last_round g.K.Passing.passes c.args.rules.now _ c.args.streams.now c.loop-stream.stream-index _ _ _ _ _ _ h c.loop-stream.invariant.goes_on
