use Rattle.std.proofs.Common.{◌∙◌, ◌++◌, ap, take, arith, rules}
use Rattle.sig_memory_links.proofs.NamedLemmas.{but_first}
use Rattle.sig_memory_links.proofs.named.place_of.Goals as goal

pub returns-then-eq-clause-others : goal.returns-then-eq-clause-others
returns-then-eq-clause-others g c =
    c.loop-at.invariant.others
    ∙ ap (λ z. take c.loop-at.at c.args.list.now ++ z)
    (but_first g.T.Named.name c.args.name.now c.args.list.now c.loop-at.at c.index-list-at.result
    (omega (arith, c.loop-at-test.true)) c.index-list-at.is (search rules))
