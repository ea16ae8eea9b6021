use Rattle.std.proofs.Common.{◌∙◌, sym, ◌<◌, length, Some, None, arith, rules, append-nil}
use Rattle.std.proofs.lemmas.Grind.{common_steps}
use Rattle.sig_fetch.specs.Asks.{report_of}
use Rattle.sig_fetch.proofs.Collecting.{one_more}
use Rattle.sig_fetch.proofs.asking.reports_of.Goals as goal
use Rattle.sig_fetch.proofs.asking.reports_of.Goals.{in-Some+in_ok-push, in_default}

pub loop-turn-preserved : goal.loop-turn-preserved
loop-turn-preserved c =
    let h : c.loop-turn.turn-index < length c.args.turns.now = omega arith in
    elim c.match-branch-2.branch [
      | in-Some+in_ok-push w ↦
          one_more report_of c.args.turns.now c.loop-turn.turn-index c.turn-item.result (Some w.in-Some.report) c.loop-turn.reports.items _ h c.turn-item.is c.loop-turn.invariant (sym w.in-Some.is ∙ c.in_ok-report.ensures)
          (let e = w.reports-is in let f = w.in_ok-push.ensures.items in first_of (cc, search rules, grind (arith, common_steps)))
      | in_default w ↦
          one_more report_of c.args.turns.now c.loop-turn.turn-index c.turn-item.result None c.loop-turn.reports.items _ h c.turn-item.is c.loop-turn.invariant (sym w.in_default.is ∙ c.in_ok-report.ensures)
          (let e = w.reports-is in let f = append-nil c.loop-turn.reports.items in first_of (cc, search rules, grind (arith, common_steps)))
    ]
