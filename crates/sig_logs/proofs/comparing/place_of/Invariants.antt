use Rattle.sig_logs.proofs.PlaceLemmas.{Walked}
use Rattle.sig_logs.proofs.comparing.place_of.Given as goal

-- the turns of the link so far are those of the log before this place
abbrev pub invariant-loop-i : goal.invariant-loop-i
invariant-loop-i g l = Walked g.T.LinkTurn.link_of l.link l.i l.place l.turns l.logged
