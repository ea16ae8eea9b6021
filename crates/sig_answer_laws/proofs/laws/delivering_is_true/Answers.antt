use Rattle.sig_terms.specs.declared.answer.Answer.TheVariants as answer
use Rattle.sig_answer_laws.proofs.SaysLemmas.{answer_is_true}
use Rattle.sig_answer_laws.proofs.laws.delivering_is_true.Goals as goal

pub returns : goal.returns
returns c = λ stream. answer_is_true (answer.Delivering stream)
