use Rattle.sig_owing.proofs.ReportedLemmas.{refused_reported}
use Rattle.sig_owing.proofs.laws.refused_were_reported.Goals as goal

pub returns : goal.returns
returns c = refused_reported
