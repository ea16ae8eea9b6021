use Rattle.std.proofs.Common.{arith, rules}
use Rattle.sig_accounts.proofs.CountLemmas.{counted_at}
use Rattle.sig_accounts.proofs.counts.count_again.Goals as goal

pub returns-then-eq-clause-found : goal.returns-then-eq-clause-found
returns-then-eq-clause-found c = λ found.
    counted_at c.args.client.now c.args.created.now c.loop-counted.created c.loop-counted.counted-index c.counted-item.result c.add.new.self
    (omega arith) c.loop-counted.invariant.same
    (search (rules, c.eq.ensures, c.client.ensures, c.if-eq.true)) c.add.ensures c.loop-counted.invariant.rest
