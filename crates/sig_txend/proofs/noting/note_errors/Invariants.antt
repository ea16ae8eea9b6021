use Rattle.std.proofs.Common.{◌≡◌}
use Rattle.sig_txend.proofs.noting.note_errors.Given as goal

abbrev pub invariant-loop-error : goal.invariant-loop-error
invariant-loop-error g l = g.S.Side.view l.side ≡ g.S.Side.view l.fn.side
