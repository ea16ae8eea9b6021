use Rattle.sig_http.proofs.RefusalLemmas.{no_cache_keeps}
use Rattle.sig_http.proofs.laws.no_cache_keeps_a_refusal.Goals as goal

pub returns : goal.returns
returns c = no_cache_keeps
