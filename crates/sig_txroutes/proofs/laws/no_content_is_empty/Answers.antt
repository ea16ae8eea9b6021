use Rattle.sig_txroutes.proofs.ReplyLemmas.{no_content_is_empty}
use Rattle.sig_txroutes.proofs.laws.no_content_is_empty.Goals as goal

pub returns : goal.returns
returns c = no_content_is_empty
