use Rattle.sig_rxroutes.proofs.ReplyLemmas.{no_cache_keeps}
use Rattle.sig_rxroutes.proofs.laws.no_cache_keeps_an_answer.Goals as goal

pub returns : goal.returns
returns c = no_cache_keeps
