use denote.Param.{param}
use denote.Param.Send.{param_sync}
use Rattle.sig_watch.proofs.Crossing.{locked_sync, shared_send}
use Rattle.sig_watch.proofs.watching.attend_at.Lts.{arg-0-1}
use Rattle.sig_watch.proofs.watching.attend_at.Goals as goal

-- a node under its lock is shared by threads where the node, its logs and its turns move between them, by its fields
pub attend-requires-sync-H : goal.attend-requires-sync-H
attend-requires-sync-H g c κs within =
    param_sync 1 (arg-0-1 g.row.E g.row.O g.row.R g.row.A g.row.E-Rules g.row.E-Node g.row.E-Log g.row.E-Company g.row.E-Node-Turn g.row.A-L g.row.A-S g.row.A-S-L g.E.laws g.O.laws g.R.laws g.A.laws g.E.Rules.laws g.E.Node.laws g.E.Log.laws g.E.Company.laws g.E.Node.Turn.laws g.A.L.laws g.A.S.laws g.A.S.L.laws g.E.Served g.E.Served-dict g.E.Lasting g.E.Lasting-dict g.E.Node.Watched g.E.Node.Watched-dict g.E.Node.Turn.LinkTurn g.E.Node.Turn.LinkTurn-dict g.E.Node.Turn.Same g.E.Node.Turn.Same-dict g.E.Log.Logged g.E.Log.Logged-dict g.O.Opened g.O.Opened-dict g.O.Naming g.O.Naming-dict g.R.Threads g.R.Threads-dict g.R.Wait g.R.Wait-dict g.A.Door g.A.Door-dict g.A.L.Link g.A.L.Link-dict g.A.L.Source g.A.L.Source-dict g.A.L.Sink g.A.L.Sink-dict g.A.S.Side g.A.S.Side-dict g.A.S.L.Link g.A.S.L.Link-dict g.A.S.L.Source g.A.S.L.Source-dict g.A.S.L.Sink g.A.S.L.Sink-dict g.E.Rules.Destruct-dict g.E.Log.Destruct-dict g.E.Node.Turn.Destruct-dict g.A.L.Destruct-dict g.A.S.Destruct-dict κs)
    (record {
      shared = (locked_sync (param 0 g.row.E) (param 1 g.row.O) (param 4 g.row.E-Rules) (param 5 g.row.E-Node) (param 6 g.row.E-Log) (param 7 g.row.E-Company) (param 8 g.row.E-Node-Turn) g.E.Lasting g.E.Node.Watched g.E.Node.Turn.LinkTurn g.E.Log.Logged g.O.Opened g.O.Naming
          c.type_bounds.sync-E-Rules
          (shared_send (param 0 g.row.E) (param 1 g.row.O) (param 4 g.row.E-Rules) (param 5 g.row.E-Node) (param 6 g.row.E-Log) (param 7 g.row.E-Company) (param 8 g.row.E-Node-Turn) g.E.Lasting g.E.Node.Watched g.E.Node.Turn.LinkTurn g.E.Log.Logged g.O.Opened g.O.Naming
          c.type_bounds.send-O c.type_bounds.send-E-Node c.type_bounds.send-E-Log c.type_bounds.send-E-Company c.type_bounds.send-E-Node-Turn)).shared;
    })
