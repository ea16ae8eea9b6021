use Rattle.sig_terms.specs.declared.answer.Answer.TheVariants as answer
use Rattle.sig_answer_laws.proofs.SaysLemmas.{answer_is_true}
use Rattle.sig_answer_laws.proofs.laws.published_is_true.Goals as goal

pub returns : goal.returns
returns c = λ store_id tokens. answer_is_true (answer.Published store_id tokens)
