use Rattle.sig_jws.proofs.SpellingLemmas.{spelled}
use Rattle.sig_jws.proofs.laws.split_text_is_spelled_by_its_parts.Goals as goal

pub returns : goal.returns
returns c = spelled
