use Rattle.sig_rxroutes.proofs.ReplyLemmas.{leaves_links_open}
use Rattle.sig_rxroutes.proofs.laws.responses_leave_links_open.Goals as goal

pub returns : goal.returns
returns c = leaves_links_open
