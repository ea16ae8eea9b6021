use Rattle.std.proofs.Common.{◌≡◌, drop}
use Rattle.sig_history.specs.Streams as history
use Rattle.sig_accounts.proofs.counts.created_by.Given as goal

abbrev pub invariant-loop-counted : goal.invariant-loop-counted
invariant-loop-counted l = history.created_by l.client l.created ≡ history.created_by l.client (drop l.counted-index l.created)
