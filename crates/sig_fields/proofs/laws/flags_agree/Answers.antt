use Rattle.sig_fields.proofs.Agreeing.{flags_agree}
use Rattle.sig_fields.proofs.laws.flags_agree.Goals as goal

pub returns : goal.returns
returns c = flags_agree
