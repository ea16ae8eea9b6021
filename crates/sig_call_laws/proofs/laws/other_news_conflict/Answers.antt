use Rattle.sig_call_laws.proofs.RepeatLemmas.{others_conflict}
use Rattle.sig_call_laws.proofs.laws.other_news_conflict.Goals as goal

pub returns : goal.returns
returns c = others_conflict
