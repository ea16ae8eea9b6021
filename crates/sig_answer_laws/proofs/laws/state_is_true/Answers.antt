use Rattle.sig_terms.specs.declared.answer.Answer.TheVariants as answer
use Rattle.sig_answer_laws.proofs.SaysLemmas.{answer_is_true}
use Rattle.sig_answer_laws.proofs.laws.state_is_true.Goals as goal

pub returns : goal.returns
returns c = λ stream status reason token. answer_is_true (answer.State stream status reason token)
