use Rattle.sig_stream.proofs.ProperPublications.{reads_proper_publications}
use Rattle.sig_stream.proofs.laws.read_publications_are_proper.Goals as goal

pub returns : goal.returns
returns c = reads_proper_publications
