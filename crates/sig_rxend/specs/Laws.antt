-- What holds of every link of a receiver.
use Rattle.std.specs.Prelude.{◌≡◌, ℕ, Option}
use Rattle.sig_rxnode.specs.Told.{RxTold}
use Rattle.sig_rxnode.specs.declared.rules.RxRules.{RxRules}
use Rattle.sig_rxnode.specs.declared.turn.RxTurn.{RxTurn}
use Rattle.sig_serving.specs.declared.link_end.LinkEnd.{LinkEnd}
use Rattle.sig_link.specs.Moment.{Moment}
use Rattle.sig_link.specs.Serving.{Serves}
use Rattle.sig_rxend.specs.Receiver.{receiver}

-- whatever its requests ask, the side beside it is left as it was
abbrev pub LeavesSides : Type 0
LeavesSides = (rules : RxRules) (link : ℕ) (end : LinkEnd) (old new : Moment RxTurn (Option RxTold))
    → Serves receiver rules link end old new → new.desk.side ≡ old.desk.side
