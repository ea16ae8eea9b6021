use Rattle.std.proofs.Common.{refl}
use Rattle.sig_nodes.proofs.ReceivingLemmas.{load_at}
use Rattle.sig_nodes.proofs.receiving.load_rx.Goals as goal

pub returns-in-Ok : goal.returns-in-Ok
returns-in-Ok c = λ name texts told loads.
    load_at c.args.rules c.args.a c.args.b c.in-Ok.node c.in-Ok.ensures.begins.0 c.in-Ok.ensures.begins.3 c.in-Ok.ensures.begins.2 (c.in-Ok.ensures.holds.rests c.in-Ok.ensures.begins.3)
    (c.in-Ok.ensures.told refl refl) c.in-Ok.ensures.reads.0 c.in-Ok.ensures.reads.1 name texts told loads
