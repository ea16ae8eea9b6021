-- One watch of a transmitter.
use Rattle.std.proofs.Common.{◌≡◌, ◌∙◌, ℕ, Bool, List, refl, ap, subst}
use Rattle.std.specs.Prelude.{is_some}
use Rattle.sig_history.specs.Owed.{Sum, sum_of}
use Rattle.sig_links.specs.Views.{DoorView}
use Rattle.sig_terms.specs.declared.rules.Rules.{Rules}
use Rattle.sig_link.specs.declared.log.LinkLog.{LinkLog}
use Rattle.sig_txnode.specs.Node.{NodeView}
use Rattle.sig_txnode.specs.Turns.{AreTrue, changes_of}
use Rattle.sig_txnode.specs.declared.turn.Turn.{Turn}
use Rattle.sig_txend.specs.Ends.{Follows, IsOneHistory}
use Rattle.sig_txend.specs.Serving.{ServesOne}
use Rattle.sig_watch.specs.Ends as watch
use Rattle.sig_watch.specs.declared.report.Report.{Report}
use Rattle.sig_watch.specs.declared.report.WatchEnd.{WatchEnd}
use Rattle.sig_serve.specs.Door.{with_door}
use Rattle.sig_serve.specs.Watches.{IsWatch, Watch, WhyEnded}

-- what a watch says of the node and the door, as a watch of a run
pub watch_is : {D : Type 0} (told : D → Bool) (seen : D → List ℕ) (may_leave : D → List ℕ → Type 0) (old now : NodeView D) (report : Report) (end : WatchEnd (NodeView D)) (door door' : DoorView)
    → Follows told old now → IsOneHistory told seen may_leave now → (why : WhyEnded old.rules now report end door door')
    → (w : Watch) × (w.shut ≡ report.shut) × (w.differ ≡ why.differs) × IsWatch old.rules w (with_door told old door) (with_door told now door')
watch_is told seen may_leave old now report end door door' follows history why =
    let facts : now.entries ≡ changes_of old.rules old.state now.turns =
    history.node_kept.changes ∙ ap (λ (r : Rules). changes_of r now.base now.turns) follows.rules ∙ ap (λ (s : Sum). changes_of old.rules s now.turns) follows.base in (
      record { logs = why.logs; shut = report.shut; turns = now.turns; facts = now.entries; differ = why.differs },
      refl,
      refl,
      record {
        stop = why.stop;
        links = why.attends;
        shut = why.shut;
        compares = why.compares;
        first = history.node_kept.first;
        answers = subst (λ (s : Sum). AreTrue old.rules s history.node_kept.first now.turns) follows.base
            (subst (λ (r : Rules). AreTrue r now.base history.node_kept.first now.turns) follows.rules history.node_kept.answers);
        facts = facts;
        state = history.state ∙ ap (λ (s : Sum). sum_of s now.entries) follows.base;
        files = follows.files;
      },
    )
