use denote.Param.{param}
use denote.Param.Send.{param_send}
use Rattle.sig_rxnode.proofs.Crossing.{inside_send}
use Rattle.sig_receive.proofs.watches.one_watch.Lts.{arg-2-4}
use Rattle.sig_receive.proofs.watches.one_watch.Goals as goal

-- a node moves between threads, by its fields
pub serve_watch-ended-requires-send-E-Node : goal.serve_watch-ended-requires-send-E-Node
serve_watch-ended-requires-send-E-Node g c κs within =
    param_send 4 (arg-2-4 g.row.R g.row.D g.row.A g.row.A-L g.row.A-S g.row.A-S-L g.R.laws g.D.laws g.A.laws g.A.L.laws g.A.S.laws g.A.S.L.laws g.R.Threads g.R.Threads-dict g.R.Wait g.R.Wait-dict g.D.Disk g.D.Disk-dict g.A.Door g.A.Door-dict g.A.L.Link g.A.L.Link-dict g.A.L.Source g.A.L.Source-dict g.A.L.Sink g.A.L.Sink-dict g.A.S.Side g.A.S.Side-dict g.A.S.L.Link g.A.S.L.Link-dict g.A.S.L.Source g.A.S.L.Source-dict g.A.S.L.Sink g.A.S.L.Sink-dict g.A.L.Destruct-dict g.A.S.Destruct-dict κs)
    (record { owned = λ d vs x. ((inside_send (param 1 g.row.D) g.D.Disk c.type_bounds.send-D).owned x.0 vs, tt); leaving = λ k d w. tt {0} })
