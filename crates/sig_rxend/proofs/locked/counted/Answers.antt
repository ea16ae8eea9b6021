use Rattle.sig_rxend.specs.Counting.{Counted}
use Rattle.sig_rxend.proofs.CountingLemmas.{counted_with}
use Rattle.sig_rxend.proofs.locked.counted.Goals as goal

pub returns : goal.returns
returns g c =
    let told : Counted = record { figures = c.args.shared.now.company; bytes = c.bytes.result } in
    counted_with _ told c.counted_text.result c.bytes.ensures c.counted_text.ensures
