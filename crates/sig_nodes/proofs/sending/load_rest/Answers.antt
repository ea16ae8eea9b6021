use Rattle.std.proofs.Common.{ap}
use Rattle.sig_outside.specs.KeptDisk.{Kept}
use Rattle.sig_nodes.proofs.KeptLemmas.{if_ok}
use Rattle.sig_nodes.proofs.SendingLemmas.{rest_loads}
use Rattle.sig_nodes.proofs.sending.load_rest.Goals as goal

pub returns-in-Ok : goal.returns-in-Ok
returns-in-Ok c =
    if_ok c.load_tx.result
    (λ n h name facts rests.
    let r = rest_loads c.args.node c.into_disks-a.result.0 c.into_disks-a.result.1 c.in-Ok.first c.in-Ok.second
    (ap (λ (d : Kept × Kept). d.0) c.into_disks-a.ensures.disks) (ap (λ (d : Kept × Kept). d.1) c.into_disks-a.ensures.disks)
    c.in-Ok.ensures.rests.0 c.in-Ok.ensures.rests.1 c.in-Ok.ensures.whole.0 c.in-Ok.ensures.whole.1 name facts rests in
    h name facts r.0 r.1)
    c.load_tx.ensures
