use Rattle.sig_accounts.proofs.ClosingLemmas.{IsClosing}
use Rattle.sig_accounts.proofs.subjects.close_up.Given as goal

abbrev pub invariant-loop-read : goal.invariant-loop-read
invariant-loop-read l = IsClosing l.fn.places.entries l.fn.order l.places.entries l.order l.kept l.read
