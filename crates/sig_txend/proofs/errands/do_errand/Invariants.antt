use Rattle.sig_txend.specs.Errands.{Looked}
use Rattle.sig_txend.proofs.errands.do_errand.Given as goal

-- what was done so far
abbrev pub invariant-loop : goal.invariant-loop
invariant-loop g l = record {
  looked : Looked l.rules l.number (g.S.Side.view l.fn.side) (g.S.Side.view l.side) l.turns.items;
}
