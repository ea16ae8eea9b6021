use Rattle.sig_rxroutes.proofs.AskLemmas.{principals_speak_for_themselves}
use Rattle.sig_rxroutes.proofs.laws.principals_speak_for_themselves.Goals as goal

pub returns : goal.returns
returns c = principals_speak_for_themselves
