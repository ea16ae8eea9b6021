use Rattle.sig_fields.proofs.Agreeing.{texts_agree}
use Rattle.sig_fields.proofs.laws.texts_agree.Goals as goal

pub returns : goal.returns
returns c = texts_agree
