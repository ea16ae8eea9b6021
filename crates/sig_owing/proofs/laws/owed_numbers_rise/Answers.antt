use Rattle.sig_owing.proofs.SoundLemmas.{numbers_rise}
use Rattle.sig_owing.proofs.laws.owed_numbers_rise.Goals as goal

pub returns : goal.returns
returns c = numbers_rise
