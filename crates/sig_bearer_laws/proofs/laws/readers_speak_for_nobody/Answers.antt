use Rattle.sig_bearer_laws.proofs.Receivers.{readers_for_nobody}
use Rattle.sig_bearer_laws.proofs.laws.readers_speak_for_nobody.Goals as goal

pub returns : goal.returns
returns c = readers_for_nobody
