use Rattle.std.proofs.Common.{length, subst, sym}
use Rattle.sig_serving.specs.Stops.{is_shut}
use Rattle.sig_watch.specs.Attending.{Attends}
use Rattle.sig_watch.specs.Receipts.{ServedBy}
use Rattle.sig_watch.proofs.EndLemmas.{handed_back, of_node, why_ended}
use Rattle.sig_watch.proofs.ReceiptLemmas.{as_many, watched_by}
use Rattle.sig_watch.proofs.SharedLemmas.{told_follows}
use Rattle.sig_watch.proofs.watching.watch.Goals as goal

pub returns-clause-follows : goal.returns-clause-follows
returns-clause-follows g c =
    let E = g.E.Lasting in
    let attended = c.attend_at-attended.result in
    of_node (λ now. E.follows c.args.node now) c.into_parts-node.result.0 (length attended.logs) (is_shut attended.stop) c.ended.result c.ended.ensures.gives
    (told_follows E.follows c.args.node _ c.into_parts-node.result.0 c.requires.same c.into_parts-node.ensures.follows)

pub returns-clause-history : goal.returns-clause-history
returns-clause-history g c =
    let attended = c.attend_at-attended.result in
    of_node (λ now. g.E.Served.is_history now) c.into_parts-node.result.0 (length attended.logs) (is_shut attended.stop) c.ended.result c.ended.ensures.gives c.recalls.ensures

pub returns-clause-links : goal.returns-clause-links
returns-clause-links g c =
    let serves = g.E.Served.serves c.args.rules in
    let number_of = g.E.Log.Logged.number_of in
    let attended = c.attend_at-attended.result in
    let old = g.A.Door.view c.args.door.now in
    let new = g.A.Door.view c.attend_at-attended.new.door in
    let by = watched_by serves number_of attended.stop attended.logs old new
    (subst (λ r. Attends (ServedBy (g.E.Served.serves r) number_of) attended.stop attended.logs old new) c.new-host.ensures c.attend_at-attended.ensures.attends) in
    let ends = c.ended.ensures.ends in
    why_ended g.E.Node.Turn.LinkTurn.link_of number_of g.E.Log.Logged.turns_of g.E.Node.Watched.turns_of g.E.Node.Watched.broken serves c.into_parts-node.result.0 by.logs (length attended.logs) attended.stop
    ends.0 c.ended.result old new c.ended.ensures.gives
    (sym (as_many g.E.Node.Turn.LinkTurn.link_of number_of g.E.Log.Logged.turns_of by.logs attended.logs by.of)) by.attends (ends.2 by.logs by.of) ends.1

pub returns-clause-memory : goal.returns-clause-memory
returns-clause-memory g c = handed_back c.args.node _ _ c.ended.result c.ended.ensures.reported
