use Rattle.sig_rxend.proofs.SideLemmas.{side_stays}
use Rattle.sig_rxend.proofs.receiver.ReceiverServed.serve.Goals as goal

pub returns : goal.returns
returns g c =
    let served = c.serve_link-log.ensures.serves in
    record { numbered = c.serve_link-log.ensures.link; kept = served.0; serves = served.1; side = side_stays _ _ _ _ _ served.1 }
