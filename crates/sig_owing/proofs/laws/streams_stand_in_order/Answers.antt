use Rattle.sig_owing.proofs.SoundLemmas.{streams_sorted}
use Rattle.sig_owing.proofs.laws.streams_stand_in_order.Goals as goal

pub returns : goal.returns
returns c = streams_sorted
