-- How one link of a watch is served, and what its log is compared with.
use Rattle.std.specs.Prelude.{◌≡◌, ℕ, List, [], None}
use Rattle.sig_terms.specs.declared.rules.Rules.{Rules}
use Rattle.sig_links.specs.Views.{SideView}
use Rattle.sig_txend.specs.Errands.{AreDone, Step}
use Rattle.sig_watch.specs.Sights.{IfErrand, Sight}
use Rattle.sig_link.specs.Moment.{desk_of, moment}
use Rattle.sig_link.specs.Serving as link
use Rattle.sig_link.specs.declared.log.LinkLog.{LinkLog}
use Rattle.sig_txend.specs.Transmitter.{transmitter}
use Rattle.sig_txnode.specs.declared.turn.Turn.{Turn}

-- it was served under this number from its first byte on, by these rules, and its log has its turns and its end; what the node
-- under its lock did is told by the log alone, and push rounds may pass over any stream, since the lock hides which are tried
pub record ServesLink (rules : Rules) (number : ℕ) (log : LinkLog Turn) (came left : Sight) : Type 0 where
  pub numbered : log.link ≡ number
  pub kept : List ℕ
  pub serves : link.Serves (transmitter (λ (stream : List ℕ). Unit {0})) rules number log.end (moment [] came.line (desk_of came.side None [])) (moment kept left.line (desk_of left.side None log.turns))

-- an errand of this number did what was to be done, by these rules, and its log has its turns
pub record DoesErrand (rules : Rules) (number : ℕ) (log : LinkLog Turn) (came left : SideView) : Type 0 where
  pub numbered : log.link ≡ number
  pub steps : List Step
  pub done : AreDone rules number steps came left log.turns

abbrev pub ServesOne : Rules → ℕ → LinkLog Turn → Sight → Sight → Type 0
ServesOne rules number log came left = IfErrand came.is_errand (DoesErrand rules number log came.side left.side) (ServesLink rules number log came left)
