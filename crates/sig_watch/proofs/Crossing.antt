-- What a lock holds may be asked by several threads.
use denote.RattleType.{RattleType}
use denote.Struct.Declared.{shape}
use denote.Param.Send.{IsSend, IsSync, recorded_send, recorded_sync, sendable, struct_send, struct_sync}
use Rattle.std.proofs.Crossing.{crosses}
use Rattle.sig_book.specs.declared.book.Naming as Naming
use Rattle.sig_desk.proofs.desk.Desk.TheSendSync as desk
use Rattle.sig_book.proofs.book.Book.TheSendSync as book
use Rattle.sig_logs.specs.declared.logged.LinkTurn as LinkTurn
use Rattle.sig_logs.specs.declared.logged.Logged as Logged
use Rattle.sig_logs.specs.declared.watched.Watched as Watched
use Rattle.sig_watch.specs.declared.shared.Lasting as Lasting
use Rattle.sig_watch.specs.declared.shared.Opened as Opened
use Rattle.sig_watch.specs.contracts.watching.Locked as Locked
use Rattle.sig_watch.specs.contracts.shared.Shared as Shared

module _ (E O R N G C T : RattleType) (l : Lasting.Ghosts E.Denot N.Denot G.Denot C.Denot T.Denot) (w : Watched.Ghosts N.Denot T.Denot) (t : LinkTurn.Ghosts T.Denot)
    (lo : Logged.Ghosts G.Denot T.Denot) (op : Opened.Ghosts O.Denot N.Denot) (na : Naming.Ghosts O.Denot) where
  pub shared_send : IsSend O → IsSend N → IsSend G → IsSend C → IsSend T → IsSend (Shared.the_row E O N G C T l w t lo op na)
  shared_send so sn sg sc st = recorded_send _ _ (Shared.the_type E O N G C T l w t lo op na).to (Shared.the_type E O N G C T l w t lo op na).to_one
      (struct_send (shape (Shared.the_type E O N G C T l w t lo op na)) (sn, (desk.the_send O G T na st, (sc, (book.the_field_send O G na, (search (sendable, crosses), (search (sendable, crosses), tt)))))))

  pub locked_sync : IsSync R → IsSend (Shared.the_row E O N G C T l w t lo op na) → IsSync (Locked.the_row E O R N G C T l w t lo op na)
  locked_sync sr ss = recorded_sync _ _ (Locked.the_type E O R N G C T l w t lo op na).to (Locked.the_type E O R N G C T l w t lo op na).to_one
      (struct_sync (shape (Locked.the_type E O R N G C T l w t lo op na)) (search (sendable, crosses), (sr, (search (crosses, ss), tt))))
