use Rattle.sig_terms.specs.declared.answer.Answer.TheVariants as answer
use Rattle.sig_answer_laws.proofs.SaysLemmas.{answer_is_true}
use Rattle.sig_answer_laws.proofs.laws.refused_are_true.Goals as goal

pub returns : goal.returns
returns c = λ next tokens. answer_is_true (answer.Refused next tokens)
