-- The watches of a run, one after the other.
use Rattle.std.specs.Prelude.{◌≡◌, ℕ, List, Option, Bool, flat_map, is_some}
use Rattle.sig_history.specs.Owed.{Sum, sum_of}
use Rattle.sig_terms.specs.declared.fact.Fact.{Fact}
use Rattle.sig_terms.specs.declared.rules.Rules.{Rules}
use Rattle.sig_logs.specs.declared.difference.Differ.{Differ}
use Rattle.sig_opening.specs.Watches.{Standing, Tells}
use Rattle.sig_link.specs.declared.log.LinkLog.{LinkLog}
use Rattle.sig_txnode.specs.declared.turn.Turn.{Turn}
use Rattle.sig_txnode.specs.Turns.{AreTrue, changes_of}
use Rattle.sig_txend.specs.Serving.{ServesOne}
use Rattle.sig_serving.specs.Stops.{is_shut}
use Rattle.sig_serving.specs.declared.stop.Stop.{Stop}
use Rattle.sig_watch.specs.Attending.{Attends}
use Rattle.sig_watch.specs.Ends as watch
use Rattle.sig_watch.specs.Ends.{Compares}
use Rattle.sig_watch.specs.declared.report.Report.{Report}
use Rattle.sig_watch.specs.declared.report.WatchEnd.{WatchEnd}
use Rattle.sig_links.specs.Views.{DoorView}
use Rattle.sig_txnode.specs.Node.{NodeView}

-- a watch: the logs of its links in the order in which they went back, whether its door is shut, the node's turns in order, the facts that these made, and what differs between the two, if anything
pub record Watch : Type 0 where
  pub logs : List (LinkLog Turn)
  pub shut : Bool
  pub turns : List Turn
  pub facts : List Fact
  pub differ : Option Differ

-- the links of these logs came to the door, were served by these rules and went back; where nothing differs, the node's turns
-- are those of the logs, and else this is where they differ. Each of the turns was answered as the
-- table says, from the state before and over a journal that ended at `first`; and the facts are those of these turns, by which
-- the state goes on
pub record IsWatch (rules : Rules) (watch : Watch) (old new : Standing Sum) : Type 0 where
  pub stop : Stop
  pub links : Attends (ServesOne rules) stop watch.logs old.door new.door
  pub shut : watch.shut ≡ is_shut stop
  pub compares : Compares (λ (t : Turn). t.link) (λ (log : LinkLog Turn). log.link) (λ (log : LinkLog Turn). log.turns) watch.logs watch.turns watch.differ
  pub first : ℕ
  pub answers : AreTrue rules old.state first watch.turns
  pub facts : watch.facts ≡ changes_of rules old.state watch.turns
  pub state : new.state ≡ sum_of old.state watch.facts
  pub files : new.files ≡ old.files

-- the facts of all of them, in order
abbrev pub facts_of : List Watch → List Fact
facts_of watches = flat_map (λ (watch : Watch). watch.facts) watches

-- what it tells of its end
abbrev pub tells_of : Watch → Tells
tells_of watch = record { shut = watch.shut; differ = watch.differ }

-- why a watch ended, by the turns of its logs beside the node's
abbrev pub WhyEnded : {D : Type 0} → Rules → NodeView D → Report → WatchEnd (NodeView D) → DoorView → DoorView → Type 0
WhyEnded {D} rules now report end old new =
    watch.WhyEnded (λ (t : Turn). t.link) (λ (log : LinkLog Turn). log.link) (λ (log : LinkLog Turn). log.turns) (λ (node : NodeView D). node.turns) (λ (node : NodeView D). is_some node.store.broken_at)
    (ServesOne rules) now report end old new
