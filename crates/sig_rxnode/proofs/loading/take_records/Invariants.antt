use Rattle.std.proofs.Common.{◌≡◌, ℕ, ◌+◌, take, drop}
use Rattle.sig_journal.specs.Layout.{records_size}
use Rattle.sig_receiver.specs.Receiver.{nothing, received}
use Rattle.sig_journal.specs.Taking.{state_after}
use Rattle.sig_rxnode.specs.Records.{receiving, texts_of}
use Rattle.sig_rxnode.proofs.loading.take_records.Given as goal

abbrev pub invariant-loop-i : goal.invariant-loop-i
invariant-loop-i l = record {
  state : (first : ℕ) → state_after receiving.step nothing first l.records ≡ state_after receiving.step (received l.receiver) (first + records_size (take l.i l.records)) (drop l.i l.records);
  entries : l.entries.items ≡ texts_of (take l.i l.records);
}
