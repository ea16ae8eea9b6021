-- What a call gives: an answer, and the fact that it makes, where there is one.
use Rattle.std.specs.Prelude.{Option}
use Rattle.sig_terms.specs.declared.answer.Answer.{Answer}
use Rattle.sig_terms.specs.declared.fact.Fact.{Fact}

pub record Reply : Type 0 where
  pub answer : Answer
  pub change : Option Fact
