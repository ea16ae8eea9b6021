use Rattle.sig_txroutes.proofs.ReplyLemmas.{tells_no_secrets}
use Rattle.sig_txroutes.proofs.laws.responses_tell_no_secrets.Goals as goal

pub returns : goal.returns
returns c = tells_no_secrets
