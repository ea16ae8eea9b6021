use Rattle.sig_event.proofs.ReadsEvents.{lists_published}
use Rattle.sig_event.proofs.laws.published_types_are_listed.Goals as goal

pub returns : goal.returns
returns c = lists_published
