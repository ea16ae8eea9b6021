use Rattle.std.proofs.Common.{◌∙◌}
use Rattle.sig_subject.proofs.Equal.{equal_identical}
use Rattle.sig_subject.proofs.matching.identical.Goals as goal

pub returns : goal.returns
returns c = c.eq.ensures ∙ equal_identical c.args.a.now c.args.b.now
