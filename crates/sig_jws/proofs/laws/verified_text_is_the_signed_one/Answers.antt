use Rattle.sig_jws.proofs.SpellingLemmas.{signed_where_verified}
use Rattle.sig_jws.proofs.laws.verified_text_is_the_signed_one.Goals as goal

pub returns : goal.returns
returns c = signed_where_verified
