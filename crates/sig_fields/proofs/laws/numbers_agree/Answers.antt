use Rattle.sig_fields.proofs.Agreeing.{numbers_agree}
use Rattle.sig_fields.proofs.laws.numbers_agree.Goals as goal

pub returns : goal.returns
returns c = numbers_agree
