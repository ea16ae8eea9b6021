-- What is given of a call that was made.
use Rattle.std.specs.Prelude.{◌≡◌, Option, Result}
use Rattle.sig_json.specs.Answers.{result_map}
use Rattle.sig_terms.specs.declared.answer.Answer.{Answer}
use Rattle.sig_terms.specs.declared.fact.Fact.{Fact}
use Rattle.sig_journal.specs.declared.node_fault.NodeFault.{NodeFault}
use Rattle.sig_txnode.specs.declared.carrying.Given.{Given}

-- the answer
abbrev pub answer_in : Result Given NodeFault → Result Answer NodeFault
answer_in result = result_map (λ (g : Given). g.answer) result

-- the answer is kept as it is given, and the change too
pub record KeepsChange (change : Option Fact) (g : Given) : Type 0 where
  pub answer : g.kept ≡ g.answer
  pub entry : g.entry ≡ change
