use Rattle.std.proofs.Common.{◌≡◌, ◌+◌, ◌<◌, ◌^◌, length}
use Rattle.sig_journal.specs.Layout.{places_of, records_of, records_size}
use Rattle.sig_journal.proofs.RecordLemmas.{appends}
use Rattle.sig_journal.proofs.records.read_records.Given as goal

abbrev pub invariant-loop-places : goal.invariant-loop-places
invariant-loop-places l = record {
  read : appends l.payloads.items (records_of (length l.rest) l.place l.rest) ≡ records_of (length l.bytes) l.first l.bytes;
  places : l.places.items ≡ places_of l.first l.payloads.items;
  place : l.place ≡ l.first + records_size l.payloads.items;
  fits : l.place + length l.rest < 2 ^ 64;
}

abbrev pub decreases-loop-places : goal.decreases-loop-places
decreases-loop-places l = length l.rest
