use Rattle.sig_terms.specs.declared.answer.Answer.TheVariants as answer
use Rattle.sig_answer_laws.proofs.SaysLemmas.{answer_is_true}
use Rattle.sig_answer_laws.proofs.laws.figures_are_true.Goals as goal

pub returns : goal.returns
returns c = λ publications standings. answer_is_true (answer.Figures publications standings)
