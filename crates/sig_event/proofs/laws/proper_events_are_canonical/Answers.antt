use Rattle.sig_event.proofs.CanonicalEvents.{writes_canonical}
use Rattle.sig_event.proofs.laws.proper_events_are_canonical.Goals as goal

pub returns : goal.returns
returns c = writes_canonical
