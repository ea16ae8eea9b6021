use Rattle.sig_txroutes.proofs.ReplyLemmas.{pages_rest_on_the_key}
use Rattle.sig_txroutes.proofs.laws.pages_rest_on_the_key.Goals as goal

pub returns : goal.returns
returns c = pages_rest_on_the_key
