use Rattle.std.proofs.Common.{◌≡◌, take}
use Rattle.sig_token_calls.specs.Replies.{settled_debts}
use Rattle.sig_token_calls.proofs.polling.settled_debts.Given as goal

abbrev pub invariant-loop-debt : goal.invariant-loop-debt
invariant-loop-debt l = l.items.items ≡ settled_debts l.ask l.fn.store_id l.account.owing.stream.conf.stream (take l.debt-index l.owed)
