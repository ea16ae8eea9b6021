use Rattle.std.proofs.Common.{take}
use Rattle.std.specs.Prelude.{All}
use Rattle.sig_desk.specs.Settling.{IsShown}
use Rattle.sig_watch.proofs.ending.differ_of.Given as goal

-- those so far are shown
abbrev pub invariant-loop-receipt : goal.invariant-loop-receipt
invariant-loop-receipt g l = record {
  shown : All (λ r. IsShown l.desk r) (take l.receipt-index l.receipts);
}
