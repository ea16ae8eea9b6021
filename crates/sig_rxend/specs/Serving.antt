-- How one link of a watch is served, and what its log is compared with.
use Rattle.std.specs.Prelude.{◌≡◌, ℕ, List, [], None}
use Rattle.sig_rxnode.specs.declared.rules.RxRules.{RxRules}
use Rattle.sig_links.specs.Views.{SideView}
use Rattle.sig_watch.specs.Sights.{IfErrand, Sight}
use Rattle.sig_link.specs.Moment.{desk_of, moment}
use Rattle.sig_link.specs.Serving as link
use Rattle.sig_link.specs.declared.log.LinkLog.{LinkLog}
use Rattle.sig_rxend.specs.Receiver.{receiver}
use Rattle.sig_rxnode.specs.declared.turn.RxTurn.{RxTurn}

-- it was served under this number from its first byte on, by these settings, and its log has its turns and its end; what the
-- node under its lock did is told by the log alone, and its side was asked nothing
pub record ServesLink (rules : RxRules) (number : ℕ) (log : LinkLog RxTurn) (came left : Sight) : Type 0 where
  pub numbered : log.link ≡ number
  pub kept : List ℕ
  pub serves : link.Serves receiver rules number log.end (moment [] came.line (desk_of came.side None [])) (moment kept left.line (desk_of left.side None log.turns))
  pub side : left.side ≡ came.side

-- an errand of this number did nothing: a receiver has none to do
pub record DoesNothing (number : ℕ) (log : LinkLog RxTurn) (came left : SideView) : Type 0 where
  pub numbered : log.link ≡ number
  pub none : log.turns ≡ []
  pub side : left ≡ came

abbrev pub ServesOne : RxRules → ℕ → LinkLog RxTurn → Sight → Sight → Type 0
ServesOne rules number log came left = IfErrand came.is_errand (DoesNothing number log came.side left.side) (ServesLink rules number log came left)
