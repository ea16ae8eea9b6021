use Rattle.std.proofs.Common.{ap, ◌∙◌, arith}
use Rattle.std.specs.List.{before_first, after_first}
use Rattle.sig_http.specs.Message.{is_question_mark}
use Rattle.sig_http.proofs.target.split_target.Goals as goal

pub returns-in-Some : goal.returns-in-Some
returns-in-Some c = record {
  path = (c.in-Some.ensures.byte (omega arith) (λ w o f. f)).0 ∙ ap (before_first is_question_mark) c.in-Ok.ensures.cases.0;
  query = (c.in-Some.ensures.byte (omega arith) (λ w o f. f)).1 ∙ ap (after_first is_question_mark) c.in-Ok.ensures.cases.0;
}
