use Rattle.sig_txnode.proofs.AnswerLemmas.{answers_row}
use Rattle.sig_txnode.proofs.taker.TxNodeTaker.turn.Goals as goal

pub returns-clause-row : goal.returns-clause-row
returns-clause-row g c = answers_row _ _ _ _ _ _ c.take.result c.take.ensures.answered.answer
