use Rattle.std.proofs.Common.{rules, ◌∙◌, [], ap, refl, subst}
use Rattle.sig_calls.specs.Proper.{is_proper_rules}
use Rattle.sig_nodes.specs.Receiving.{RxAt}
use Rattle.sig_nodes.specs.Sending.{TxAt}
use Rattle.sig_schedules.proofs.ReplayRules.{proper}
use Rattle.sig_schedules.specs.Replay.{receiver_store, replay_store}
use Rattle.sig_world.proofs.replayer.Replayer.new.Goals as goal

pub new_tx-requires : goal.new_tx-requires
new_tx-requires c = ap is_proper_rules c.in_ok-replay_rules.ensures ∙ proper

pub returns-in-Ok : goal.returns-in-Ok
returns-in-Ok c = record {
  rules = c.in_ok-rules.ensures;
  sent = subst (λ r. TxAt r replay_store c.in_ok-tx.tx []) c.in_ok-replay_rules.ensures c.in_ok-tx.ensures;
  received = subst (λ r. RxAt r receiver_store c.in-Ok.rx []) c.in_ok-settings.ensures c.in-Ok.ensures;
  messages = c.new.ensures.items;
  replies = c.new-in-Ok.ensures.items;
  time = refl;
  within = search rules;
}
