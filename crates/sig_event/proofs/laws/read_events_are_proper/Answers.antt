use Rattle.sig_event.proofs.ProperEvents.{reads_proper}
use Rattle.sig_event.proofs.laws.read_events_are_proper.Goals as goal

pub returns : goal.returns
returns c = reads_proper
