use Rattle.std.proofs.Common.{subst, IfOk}
use Rattle.sig_txend.specs.Counting.{IsCountedAt}
use Rattle.sig_txend.proofs.locked.counted.Goals as goal

pub returns : goal.returns
returns g c =
    let journal = c.args.shared.now.node.store.journal in
    let counted = c.counted.result in
    subst (λ n. IfOk counted (IsCountedAt n journal.end)) c.records-records.ensures
    (subst (λ n. IfOk counted (IsCountedAt c.records-records.result n)) c.bytes-bytes.ensures c.counted.ensures)
