use Rattle.sig_owing.proofs.SoundLemmas.{sound_whole}
use Rattle.sig_owing.proofs.laws.sound_histories_are_whole.Goals as goal

pub returns : goal.returns
returns c = sound_whole
