use Rattle.std.proofs.Common.{ap, subst, sym, Err}
use Rattle.sig_schedules.specs.Replay.{replay_rules, replay_store}
use Rattle.sig_world.specs.Ends.{IsFullTx}
use Rattle.sig_world.proofs.EndsLemmas.{full_tx, held}
use Rattle.sig_world.proofs.sender.ask_tx.Goals as goal

pub returns-in-Err-clause-full : goal.returns-in-Err-clause-full
returns-in-Err-clause-full c = λ facts at.
    subst (IsFullTx facts c.args.call.now c.args.now) (sym c.told_fault.ensures)
    (full_tx facts c.args.call.now c.args.now c.in-Err.fault
    (λ n is. c.in-Err.ensures.full n (ap (λ e. Err e) is) replay_rules replay_store facts (held _ c.args.tx.now c.in-Some.node c.in-Some.is at)))
