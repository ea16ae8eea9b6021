-- The watches of a run, one after the other.
use Rattle.std.specs.Prelude.{◌≡◌, ℕ, List, Option, Bool, flat_map, is_some}
use Rattle.sig_receiver.specs.Receiver.{Received, received_of}
use Rattle.sig_rxnode.specs.declared.rules.RxRules.{RxRules}
use Rattle.sig_logs.specs.declared.difference.Differ.{Differ}
use Rattle.sig_opening.specs.Watches.{Standing, Tells}
use Rattle.sig_link.specs.declared.log.LinkLog.{LinkLog}
use Rattle.sig_rxnode.specs.declared.turn.RxTurn.{RxTurn}
use Rattle.sig_rxnode.specs.Turns.{AreTrue, changes_of}
use Rattle.sig_rxend.specs.Serving.{ServesOne}
use Rattle.sig_serving.specs.Stops.{is_shut}
use Rattle.sig_serving.specs.declared.stop.Stop.{Stop}
use Rattle.sig_watch.specs.Attending.{Attends}
use Rattle.sig_watch.specs.Ends as watch
use Rattle.sig_watch.specs.Ends.{Compares}
use Rattle.sig_watch.specs.declared.report.Report.{Report}
use Rattle.sig_watch.specs.declared.report.WatchEnd.{WatchEnd}
use Rattle.sig_links.specs.Views.{DoorView}
use Rattle.sig_rxnode.specs.Node.{NodeView}

-- a watch: the logs of its links in the order in which they went back, whether its door is shut, the node's turns in order, the token texts that these added, and what differs between the two, if anything
pub record Watch : Type 0 where
  pub logs : List (LinkLog RxTurn)
  pub shut : Bool
  pub turns : List RxTurn
  pub texts : List (List ℕ)
  pub differ : Option Differ

-- the links of these logs came to the door, were served by these rules and went back; where nothing differs, the node's turns
-- are those of the logs, and else this is where they differ. Each of the turns was answered as the
-- table says, from the state before and over a journal that ended at `first`; and the texts are those of these turns, by which
-- the state goes on
pub record IsWatch (rules : RxRules) (watch : Watch) (old new : Standing Received) : Type 0 where
  pub stop : Stop
  pub links : Attends (ServesOne rules) stop watch.logs old.door new.door
  pub shut : watch.shut ≡ is_shut stop
  pub compares : Compares (λ (t : RxTurn). t.link) (λ (log : LinkLog RxTurn). log.link) (λ (log : LinkLog RxTurn). log.turns) watch.logs watch.turns watch.differ
  pub first : ℕ
  pub answers : AreTrue rules.trust old.state first watch.turns
  pub texts : watch.texts ≡ changes_of rules.trust old.state watch.turns
  pub state : new.state ≡ received_of old.state watch.texts
  pub files : new.files ≡ old.files

-- the texts of all of them, in order
abbrev pub texts_of : List Watch → List (List ℕ)
texts_of watches = flat_map (λ (watch : Watch). watch.texts) watches

-- what it tells of its end
abbrev pub tells_of : Watch → Tells
tells_of watch = record { shut = watch.shut; differ = watch.differ }

-- why a watch ended, by the turns of its logs beside the node's
abbrev pub WhyEnded : {D : Type 0} → RxRules → NodeView D → Report → WatchEnd (NodeView D) → DoorView → DoorView → Type 0
WhyEnded {D} rules now report end old new =
    watch.WhyEnded (λ (t : RxTurn). t.link) (λ (log : LinkLog RxTurn). log.link) (λ (log : LinkLog RxTurn). log.turns) (λ (node : NodeView D). node.turns) (λ (node : NodeView D). is_some node.kept.store.broken_at)
    (ServesOne rules) now report end old new
