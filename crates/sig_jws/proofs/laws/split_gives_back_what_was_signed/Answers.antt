use Rattle.sig_jws.proofs.SignedLemmas.{gives_back}
use Rattle.sig_jws.proofs.laws.split_gives_back_what_was_signed.Goals as goal

pub returns : goal.returns
returns c = gives_back
