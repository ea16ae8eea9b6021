use Rattle.std.proofs.Common.{◌≡◌, ◌∙◌, ap, subst, sym, Err}
use Rattle.sig_journal.specs.declared.node_fault.NodeFault.TheVariants.{Full}
use Rattle.sig_calls.specs.Proper.{is_proper_rules}
use Rattle.sig_nodes.specs.Sending.{TxAt, tx_told}
use Rattle.sig_schedules.specs.Replay.{replay_store}
use Rattle.sig_schedules.proofs.ReplayRules.{proper}
use Rattle.sig_world.specs.Ends.{IsFullTx}
use Rattle.sig_world.proofs.EndsLemmas.{full_tx, held}
use Rattle.sig_world.proofs.sender.halt_tx.Goals as goal

pub stop_tx-requires-clause-rules : goal.stop_tx-requires-clause-rules
stop_tx-requires-clause-rules c = ap is_proper_rules c.in_ok-rules.ensures ∙ proper

pub returns-in-Err-clause-full : goal.returns-in-Err-clause-full
returns-in-Err-clause-full c = λ facts at.
    subst (IsFullTx facts c.args.call.now c.args.now) (sym c.told_fault.ensures)
    (full_tx facts c.args.call.now c.args.now c.in-Err.fault
    (λ n is. subst (λ rules. tx_told rules replay_store facts c.args.call.now c.args.now ≡ Err (Full n)) c.in_ok-rules.ensures
    (c.in-Err.ensures.full n (ap (λ e. Err e) is) replay_store facts
    (subst (λ rules. TxAt rules replay_store c.in-Some.node facts) (sym c.in_ok-rules.ensures) (held _ c.args.tx.now c.in-Some.node (sym c.take.ensures.value ∙ c.in-Some.is) at)))))
