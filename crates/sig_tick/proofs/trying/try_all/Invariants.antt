use Rattle.std.proofs.Common.{◌≡◌, drop}
use Rattle.sig_tick.proofs.TryLemmas.{TriesOn}
use Rattle.sig_tick.proofs.trying.try_all.Given as goal

abbrev pub invariant-loop-stream : goal.invariant-loop-stream
invariant-loop-stream g l = record {
  goes_on : TriesOn l.rules (record { link = l.fn.log.link; now = l.fn.log.now }) l.streams (drop l.stream-index l.streams)
      l.fn.schedule l.schedule (g.S.Side.view l.fn.side) (g.S.Side.view l.side)
      l.fn.log.turns.items l.log.turns.items (g.K.Taker.told l.fn.taker) (g.K.Taker.told l.taker) l.attempts.items;
  link : l.log.link ≡ l.fn.log.link;
  now : l.log.now ≡ l.fn.log.now;
}
