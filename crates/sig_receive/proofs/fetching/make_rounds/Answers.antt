use Rattle.sig_receive.proofs.FetchLemmas.{breaks_by, counts_network, makes_rounds}
use Rattle.sig_receive.proofs.fetching.make_rounds.Goals as goal

pub returns-clause-makes : goal.returns-clause-makes
returns-clause-makes g c =
    makes_rounds g.X.D.Disk.told g.X.D.Disk.faults c.args.peer.now c.args.rounds _ _ _ _ _ _ _ _ _ (g.X.A.S.Side.view c.side-side.result)
    (g.X.A.S.Side.view c.fetch-fetched.new.side) c.args.node c.fetch-fetched.new.node c.fetch-fetched.result
    c.side-side.ensures.next c.back_side.ensures.sides c.side-side.ensures.begins c.side-side.ensures.whole c.side-side.ensures.back c.side-side.ensures.lends c.back_side.ensures.back
    c.fetch-fetched.ensures.fetches (λ none. c.requires.reached (c.fetch-fetched.ensures.no_gateway.0 none)) c.fetch-fetched.ensures.tallies c.fetch-fetched.ensures.times c.fetch-fetched.ensures.halts

pub returns-clause-breaks : goal.returns-clause-breaks
returns-clause-breaks g c = breaks_by g.X.D.Disk.told g.X.D.Disk.faults c.args.node c.fetch-fetched.new.node c.fetch-fetched.result c.requires.whole c.fetch-fetched.ensures.halts

pub returns-clause-network : goal.returns-clause-network
returns-clause-network g c = counts_network c.fetch-fetched.result _ _ _ _ _ c.side-side.ensures.whole c.side-side.ensures.network c.fetch-fetched.ensures.counts c.back_side.ensures.faults
