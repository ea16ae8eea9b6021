use Rattle.std.proofs.Common.{◌≡◌, drop}
use Rattle.sig_tick.proofs.BringLemmas.{BringsOn}
use Rattle.sig_tick.proofs.bringing.bring.Given as goal

abbrev pub invariant-loop-token : goal.invariant-loop-token
invariant-loop-token g l = record {
  goes_on : BringsOn l.rules (record { link = l.fn.log.link; now = l.fn.log.now }) l.tokens (drop l.token-index l.tokens)
      (g.S.Side.view l.fn.side) (g.S.Side.view l.side)
      l.fn.log.turns.items l.log.turns.items (g.K.Taker.told l.fn.taker) (g.K.Taker.told l.taker);
  link : l.log.link ≡ l.fn.log.link;
  now : l.log.now ≡ l.fn.log.now;
}
