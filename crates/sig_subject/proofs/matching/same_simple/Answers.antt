use Rattle.std.proofs.lemmas.Bool.Decides.{same_from_decides}
use Rattle.sig_subject.proofs.Identity.{decides_simple}
use Rattle.sig_subject.specs.Matching.{same_simple}
use Rattle.sig_subject.proofs.matching.same_simple.Goals as goal

pub returns : goal.returns
returns c = same_from_decides c.same.result (same_simple c.args.a.now c.args.b.now) c.same.ensures (decides_simple c.args.a.now c.args.b.now)
