use Rattle.std.proofs.Common.{◌≡◌}
use Rattle.sig_txend.proofs.noting.note_log.Given as goal

abbrev pub invariant-loop-turn : goal.invariant-loop-turn
invariant-loop-turn g l = g.S.Side.view l.side ≡ g.S.Side.view l.fn.side
