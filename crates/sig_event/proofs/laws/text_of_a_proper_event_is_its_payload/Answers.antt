use Rattle.sig_event.proofs.ProperEvents.{text_is_payload}
use Rattle.sig_event.proofs.laws.text_of_a_proper_event_is_its_payload.Goals as goal

pub returns : goal.returns
returns c = text_is_payload
