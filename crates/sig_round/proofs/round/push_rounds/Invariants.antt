use Rattle.std.proofs.Common.{◌≡◌, drop}
use Rattle.sig_round.proofs.MoreRounds.{RoundsGoOn}
use Rattle.sig_round.proofs.round.push_rounds.Given as goal

abbrev pub invariant-loop-stream : goal.invariant-loop-stream
invariant-loop-stream g l = record {
  goes_on : RoundsGoOn g.K.Passing.passes l.rules (record { link = l.fn.log.link; now = l.fn.log.now }) l.streams (drop l.stream-index l.streams)
      (g.S.Side.view l.fn.side) (g.S.Side.view l.side)
      l.fn.log.turns.items l.log.turns.items (g.K.Taker.told l.fn.taker) (g.K.Taker.told l.taker);
  link : l.log.link ≡ l.fn.log.link;
  now : l.log.now ≡ l.fn.log.now;
}
