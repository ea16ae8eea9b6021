use Rattle.sig_fetch.proofs.MoreRounds.{fetches_none}
use Rattle.sig_fetch.proofs.fetching.fetch.Goals as goal

pub returns-in_default-clause-fetches : goal.returns-in_default-clause-fetches
returns-in_default-clause-fetches g c = fetches_none c.args.peer.now c.args.rounds _ _ c.args.node.now
