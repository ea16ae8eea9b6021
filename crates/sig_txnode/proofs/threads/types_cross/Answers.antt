use denote.Param.{param}
use denote.Param.Send.{param_send, param_sync}
use Rattle.sig_txnode.proofs.Crossing.{inside_send, inside_sync}
use Rattle.sig_txnode.proofs.threads.types_cross.Lts.{arg-0-0}
use Rattle.sig_txnode.proofs.threads.types_cross.Goals as goal

-- of a node with a model, by its fields
pub crosses_threads-requires-send-T : goal.crosses_threads-requires-send-T
crosses_threads-requires-send-T g c κs within =
    param_send 0 (arg-0-0 g.row.D g.D.laws g.D.Disk g.D.Disk-dict κs)
    (record { owned = λ d vs x. ((inside_send (param 0 g.row.D) g.D.Disk c.type_bounds.send-D).owned x.0 vs, tt); leaving = λ k d w. tt {0} })

pub crosses_threads-requires-sync-T : goal.crosses_threads-requires-sync-T
crosses_threads-requires-sync-T g c κs within =
    param_sync 0 (arg-0-0 g.row.D g.D.laws g.D.Disk g.D.Disk-dict κs)
    (record { shared = λ d b o κ x. ((inside_sync (param 0 g.row.D) g.D.Disk c.type_bounds.sync-D).shared x.0 b o κ, tt) })
