-- What a transmitter tells as it begins to serve.
use Rattle.std.specs.Prelude.{◌-◌, ◌^◌, length, min}
use Rattle.sig_outbox.specs.Totals.{owed_in_all}
use Rattle.sig_notes.specs.declared.held.Held.{Held}
use Rattle.sig_txnode.specs.Node.{NodeView}

-- what its node holds: a count of tokens above 2^64 - 1 is told as that number
abbrev pub held_by : {D : Type 0} → NodeView D → Held
held_by node = record {
  streams = length node.state.parts.streams;
  owed = min (owed_in_all node.state) (2 ^ 64 - 1);
  records = node.store.journal.records;
}
