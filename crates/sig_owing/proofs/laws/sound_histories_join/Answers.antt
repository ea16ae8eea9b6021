use Rattle.sig_owing.proofs.SoundLemmas.{sound_joined}
use Rattle.sig_owing.proofs.laws.sound_histories_join.Goals as goal

pub returns : goal.returns
returns c = sound_joined
