use Rattle.std.proofs.Common.{◌∙◌, List, ap, sym, subst}
use Rattle.sig_watch.specs.Attending.{Attends}
use Rattle.sig_watch.proofs.attending.attend.Goals as goal

pub returns-clause-attends : goal.returns-clause-attends
returns-clause-attends g c =
    let served = c.serve_in_scope-stop in
    subst (λ (logs : List g.row.H-Log.Denot). Attends (g.H.Host.serves c.args.host.now) served.result logs (g.A.Door.view c.args.door.now) (g.A.Door.view served.new.door))
    (sym (c.of.ensures ∙ ap (λ v. v.items) c.into_logs.ensures)) served.ensures.attends
