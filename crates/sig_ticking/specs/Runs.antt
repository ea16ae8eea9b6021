-- What a run of `courier` comes to, as the outside, the input and the output tell it.
use Rattle.std.specs.Prelude.{◌≡◌, ◌⊎◌, ℕ, List, [], Bool, false, Option, Some}
use Rattle.sig_command.specs.Moment.{Moment}
use Rattle.sig_courier.specs.declared.attempt.Attempt.{Attempt}
use Rattle.sig_history.specs.Owed.{Sum, sum_of}
use Rattle.sig_links.specs.Told.{SideEnd, SidePlan}
use Rattle.sig_links.specs.Views.{SideView}
use Rattle.sig_opening.specs.Files.{IfBoth}
use Rattle.sig_serve.specs.Closing.{PutsBack}
use Rattle.sig_serve.specs.Ends.{Says, StandsForState}
use Rattle.sig_terms.specs.declared.rules.Rules.{Rules}
use Rattle.sig_txnode.specs.Node.{NodeView, files_told}
use Rattle.sig_txsettings.specs.declared.settings.TxSettings.{TxSettings}
use Rattle.sig_ticking.specs.Ends.{ByCourier, IsEndBefore, fails_by}
use Rattle.sig_ticking.specs.Lines.{MakesTicks}
use Rattle.sig_ticking.specs.Sides.{Beside, NoTicks, TakesSide}
use Rattle.sig_ticking.specs.Ticks.{between, facts_of, with_node}
use Rattle.sig_ticking.specs.declared.ending.CourierEnd.{CourierEnd}

-- where a file of the store isn't there, no line was asked for, and the run ends as one that came to none
abbrev pub UnlessThere : Option Bool → Option Bool → CourierEnd → Beside → Beside → Moment → Moment → Type 0
UnlessThere a b end old new before after = ((a ≡ Some false) ⊎ (b ≡ Some false)) → IsEndBefore end × NoTicks old new before after

-- the store was opened, and told one state; a side was taken; ticks were made over it, one a line, from that state and with no
-- attempt before; and the store was put back with that state and the facts of them all
pub record Run (rules : Rules) (end : CourierEnd) (old new : Beside) (before after : Moment) : Type 0 where
  pub state : Sum
  pub opened : StandsForState old.a old.b state
  pub files : Bool × Bool
  pub first : SideView
  pub last : SideView
  pub side : TakesSide old.ahead old.back new.ahead new.back first last
  pub now : Sum
  pub log : List Attempt
  pub made : MakesTicks rules end (between state files first []) (between now files last log) before after
  pub adds : now ≡ sum_of state (facts_of made.ticks)
  pub back : IfBoth new.a new.b (PutsBack (fails_by end) now)

-- there was no run; or there was one by these rules
abbrev pub Couriers : Rules → CourierEnd → Beside → Beside → Moment → Moment → Type 0
Couriers rules end old new before after = ByCourier end (NoTicks old new before after) (Run rules end old new before after)

-- the same by settings that say so, where they are told
abbrev pub CouriersBy : Option (List ℕ) → CourierEnd → Beside → Beside → Moment → Moment → Type 0
CouriersBy told end old new before after =
    ByCourier end (NoTicks old new before after) ((said : TxSettings) × Says told said × Run said.rules end old new before after)

-- ---- on the way

-- ticks were made over a side that was taken and given back, by a node whose files are told as before
pub record RunsOver {D : Type 0} (told : D → Bool) (rules : Rules) (end : CourierEnd) (node node' : NodeView D)
    (ahead : Option (List SidePlan)) (back : Option (List SideEnd)) (ahead' : Option (List SidePlan)) (back' : Option (List SideEnd)) (before after : Moment) : Type 0 where
  pub first : SideView
  pub last : SideView
  pub side : TakesSide ahead back ahead' back' first last
  pub log : List Attempt
  pub made : MakesTicks rules end (with_node told node first []) (with_node told node' last log) before after
  pub files : files_told told node' ≡ files_told told node
