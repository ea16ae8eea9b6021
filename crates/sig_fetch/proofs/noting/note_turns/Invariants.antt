use Rattle.std.proofs.Common.{◌≡◌}
use Rattle.sig_fetch.proofs.noting.note_turns.Given as goal

abbrev pub invariant-loop-turn : goal.invariant-loop-turn
invariant-loop-turn g l = g.S.Side.view l.side ≡ g.S.Side.view l.fn.side
