use Rattle.std.proofs.Common.{◌≡◌, drop}
use Rattle.sig_tick.proofs.AskLemmas.{AsksOn}
use Rattle.sig_tick.proofs.listing.ask_all.Given as goal

abbrev pub invariant-loop-name : goal.invariant-loop-name
invariant-loop-name g l = record {
  goes_on : AsksOn (record { link = l.fn.log.link; now = l.fn.log.now }) l.names (drop l.name-index l.names)
      l.fn.log.turns.items l.log.turns.items (g.K.Taker.told l.fn.taker) (g.K.Taker.told l.taker);
  link : l.log.link ≡ l.fn.log.link;
  now : l.log.now ≡ l.fn.log.now;
}
