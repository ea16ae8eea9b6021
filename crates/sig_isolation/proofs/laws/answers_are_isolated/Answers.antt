use Rattle.sig_isolation.proofs.AnswerLemmas.{answers_isolated}
use Rattle.sig_isolation.proofs.HistoryLemmas.{parts_isolated}
use Rattle.sig_isolation.proofs.laws.answers_are_isolated.Goals as goal

pub returns : goal.returns
returns c = answers_isolated parts_isolated
