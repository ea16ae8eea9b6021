use Rattle.sig_event.proofs.WrittenEvents.{reads_written}
use Rattle.sig_event.proofs.laws.written_events_are_read.Goals as goal

pub returns : goal.returns
returns c = reads_written
