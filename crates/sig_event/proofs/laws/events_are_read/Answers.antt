use Rattle.sig_event.proofs.ReadsEvents.{reads_events}
use Rattle.sig_event.proofs.laws.events_are_read.Goals as goal

pub returns : goal.returns
returns c = reads_events
