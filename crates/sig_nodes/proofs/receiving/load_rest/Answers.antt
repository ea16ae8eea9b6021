use Rattle.std.proofs.Common.{ap}
use Rattle.sig_outside.specs.KeptDisk.{Kept}
use Rattle.sig_nodes.proofs.KeptLemmas.{if_ok}
use Rattle.sig_nodes.proofs.ReceivingLemmas.{rest_loads}
use Rattle.sig_nodes.proofs.receiving.load_rest.Goals as goal

pub returns-in-Ok : goal.returns-in-Ok
returns-in-Ok c =
    if_ok c.load_rx.result
    (λ n h name texts rests.
    let r = rest_loads c.args.node c.into_disks-a.result.0 c.into_disks-a.result.1 c.in-Ok.first c.in-Ok.second
    (ap (λ (d : Kept × Kept). d.0) c.into_disks-a.ensures.files) (ap (λ (d : Kept × Kept). d.1) c.into_disks-a.ensures.files)
    c.in-Ok.ensures.rests.0 c.in-Ok.ensures.rests.1 c.in-Ok.ensures.whole.0 c.in-Ok.ensures.whole.1 name texts rests in
    h name texts r.0 r.1)
    c.load_rx.ensures
