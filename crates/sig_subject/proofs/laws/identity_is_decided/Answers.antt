use Rattle.sig_subject.proofs.Identity.{decides_identity}
use Rattle.sig_subject.proofs.laws.identity_is_decided.Goals as goal

pub returns : goal.returns
returns c = decides_identity
