use Rattle.std.proofs.Common.{◌∙◌, ap, subst, sym, Option, Some}
use Rattle.sig_calls.specs.Proper.{is_proper_rules}
use Rattle.sig_nodes.specs.Sending.{TxAt}
use Rattle.sig_schedules.proofs.ReplayRules.{proper}
use Rattle.sig_schedules.specs.Replay.{replay_rules, replay_store}
use Rattle.sig_terms.specs.declared.rules.Rules.{Rules}
use Rattle.sig_world.specs.Ends.{TxIn}
use Rattle.sig_world.proofs.sender.reload_tx.Goals as goal

pub crash_tx-requires : goal.crash_tx-requires
crash_tx-requires c = ap is_proper_rules c.in_ok-rules.ensures ∙ proper

pub returns-in_ok-again-in-Some : goal.returns-in_ok-again-in-Some
returns-in_ok-again-in-Some c facts at =
    let held : TxIn (Some c.in-Some.node) facts = subst (λ t. TxIn t facts) (sym c.take.ensures.value ∙ c.in-Some.is) at in
    let before : TxAt c.in_ok-rules.rules replay_store c.in-Some.node facts = subst (λ (r : Rules). TxAt r replay_store c.in-Some.node facts) (sym c.in_ok-rules.ensures) held in
    let after : TxAt c.in_ok-rules.rules replay_store c.in_ok-again-in-Some.again facts = c.in_ok-again-in-Some.ensures replay_store facts before in
    subst (λ t. TxIn t facts) (sym c.put_tx.ensures) (subst (λ (r : Rules). TxAt r replay_store c.in_ok-again-in-Some.again facts) c.in_ok-rules.ensures after)
