use Rattle.sig_json.proofs.ReadBack.{canon_reads}
use Rattle.sig_json.proofs.laws.canon_reads.Goals as goal

pub returns : goal.returns
returns c = canon_reads
