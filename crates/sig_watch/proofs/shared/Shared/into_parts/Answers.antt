use Rattle.sig_watch.proofs.SharedLemmas.{still_follows}
use Rattle.sig_watch.proofs.shared.Shared.into_parts.Goals as goal

pub returns-clause-follows : goal.returns-clause-follows
returns-clause-follows g c =
    let E = g.E.Lasting in
    still_follows E.follows E.follows_once _ g.O.Opened.before _ c.args.self.same c.args.self.follows
