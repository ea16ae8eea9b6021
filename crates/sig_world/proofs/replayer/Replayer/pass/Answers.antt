use Rattle.std.proofs.Common.{refl}
use Rattle.sig_world.proofs.ReplayerLemmas.{pass-goes}
use Rattle.sig_world.proofs.replayer.Replayer.pass.Goals as goal

pub returns : goal.returns
returns c = λ world at.
    pass-goes c.args.self.now _ world c.args.number c.args.time c.args.text.now c.add_time.new.text at c.requires c.in_ok-add_time.ensures refl refl refl refl refl refl
