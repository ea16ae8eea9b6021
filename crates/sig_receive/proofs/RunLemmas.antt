-- One watch of a receiver.
use Rattle.std.proofs.Common.{◌≡◌, ◌∙◌, ℕ, Bool, List, refl, ap, subst}
use Rattle.std.specs.Prelude.{is_some}
use Rattle.sig_receiver.specs.Receiver.{Received, received_of}
use Rattle.sig_links.specs.Views.{DoorView}
use Rattle.sig_rxnode.specs.declared.rules.RxRules.{RxRules}
use Rattle.sig_link.specs.declared.log.LinkLog.{LinkLog}
use Rattle.sig_rxnode.specs.Node.{NodeView, base_of, since_of}
use Rattle.sig_rxnode.specs.Turns.{AreTrue, changes_of}
use Rattle.sig_rxnode.specs.declared.turn.RxTurn.{RxTurn}
use Rattle.sig_rxend.specs.Ends.{Follows, IsOneHistory}
use Rattle.sig_rxend.specs.Serving.{ServesOne}
use Rattle.sig_watch.specs.Ends as watch
use Rattle.sig_watch.specs.declared.report.Report.{Report}
use Rattle.sig_watch.specs.declared.report.WatchEnd.{WatchEnd}
use Rattle.sig_receive.specs.Door.{with_door}
use Rattle.sig_receive.specs.Watches.{IsWatch, Watch, WhyEnded}

-- what a watch says of the node and the door, as a watch of a run
pub watch_is : {D : Type 0} (told : D → Bool) (seen : D → List ℕ) (may_leave : D → List ℕ → Type 0) (old now : NodeView D) (report : Report) (end : WatchEnd (NodeView D)) (door door' : DoorView)
    → Follows told old now → IsOneHistory told seen may_leave now → (why : WhyEnded old.rules now report end door door')
    → (w : Watch) × (w.shut ≡ report.shut) × (w.differ ≡ why.differs) × IsWatch old.rules w (with_door told old door) (with_door told now door')
watch_is told seen may_leave old now report end door door' follows history why =
    let texts : (since_of now) ≡ changes_of old.rules.trust old.kept.state now.turns =
    history.turns.changes ∙ ap (λ (r : RxRules). changes_of r.trust (base_of now) now.turns) follows.rules ∙ ap (λ (s : Received). changes_of old.rules.trust s now.turns) follows.base in (
      record { logs = why.logs; shut = report.shut; turns = now.turns; texts = (since_of now); differ = why.differs },
      refl,
      refl,
      record {
        stop = why.stop;
        links = why.attends;
        shut = why.shut;
        compares = why.compares;
        first = history.turns.first;
        answers = subst (λ (s : Received). AreTrue old.rules.trust s history.turns.first now.turns) follows.base
            (subst (λ (r : RxRules). AreTrue r.trust (base_of now) history.turns.first now.turns) follows.rules history.turns.answers);
        texts = texts;
        state = history.state ∙ ap (λ (s : Received). received_of s (since_of now)) follows.base;
        files = follows.files;
      },
    )
