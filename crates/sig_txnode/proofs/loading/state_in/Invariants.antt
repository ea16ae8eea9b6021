use Rattle.std.proofs.Common.{◌≡◌, ◌+◌, length, take, drop}
use Rattle.sig_history.specs.Owed.{empty_sum}
use Rattle.sig_history.specs.Whole.{IsWhole}
use Rattle.sig_journal.specs.Layout.{records_size}
use Rattle.sig_journal.specs.Taking.{state_after}
use Rattle.sig_txnode.specs.Records.{sending}
use Rattle.sig_txnode.proofs.loading.state_in.Given as goal

abbrev pub invariant-loop-i : goal.invariant-loop-i
invariant-loop-i g l =
    let first = 35 + length l.loaded.snapshot in
    record {
      goes : state_after sending.step (empty_sum l.loaded.store_id) first l.records ≡ state_after sending.step l.outbox.sum (first + records_size (take l.i l.records)) (drop l.i l.records);
      whole : IsWhole l.outbox.sum;
    }
