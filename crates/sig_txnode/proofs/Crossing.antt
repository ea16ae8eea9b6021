-- What a node is made of may cross threads where its disks may.
use denote.RattleType.{RattleType}
use denote.Param.Send.{IsSend, IsSync, recorded_send, recorded_sync, sendable, struct_send, struct_sync}
use denote.Struct.Declared.{shape}
use Rattle.std.proofs.Crossing.{crosses}
use Rattle.sig_journal.proofs.store.Store.TheSendSync as store
use Rattle.sig_outbox.proofs.outbox.Outbox.TheSendSync as outbox
use Rattle.sig_outside.specs.declared.disk.Disk.{Ghosts}
use Rattle.sig_past.specs.contracts.past.Past as Past
use Rattle.sig_terms.specs.contracts.fact.Fact as Fact
use Rattle.sig_terms.proofs.rules.Rules.TheSendSync as rules
use Rattle.sig_txnode.specs.contracts.keeping.Held as Held
use Rattle.sig_txnode.specs.contracts.node.TxNode.TheInside as Inside
use Rattle.sig_txnode.specs.contracts.turn.Turn as Turn

facts_send : IsSend (Past.the_field Fact.the_row).row
facts_send = search (sendable, crosses) depth 60 fits 20000

facts_sync : IsSync (Past.the_field Fact.the_row).row
facts_sync = search (sendable, crosses) depth 60 fits 20000

turns_send : IsSend (Past.the_field Turn.the_row).row
turns_send = search (sendable, crosses) depth 60 fits 20000

turns_sync : IsSync (Past.the_field Turn.the_row).row
turns_sync = search (sendable, crosses) depth 60 fits 20000

held_send : (D : RattleType) (g : Ghosts D.Denot) → IsSend D → IsSend (Held.the_field D g).row
held_send D g d = struct_send (shape (Held.the_type D g)) (store.the_send D g d, (outbox.the_send, (facts_send, (turns_send, tt))))

pub inside_send : (D : RattleType) (g : Ghosts D.Denot) → IsSend D → IsSend (Inside.the_row D g)
inside_send D g d = recorded_send _ _ (Inside.the_type D g).to (Inside.the_type D g).to_one
    (struct_send (shape (Inside.the_type D g)) (search (sendable, crosses), (rules.the_field_send, (search (sendable, crosses), (held_send D g d, tt)))))

held_sync : (D : RattleType) (g : Ghosts D.Denot) → IsSync D → IsSync (Held.the_field D g).row
held_sync D g d = struct_sync (shape (Held.the_type D g)) (store.the_sync D g d, (outbox.the_sync, (facts_sync, (turns_sync, tt))))

pub inside_sync : (D : RattleType) (g : Ghosts D.Denot) → IsSync D → IsSync (Inside.the_row D g)
inside_sync D g d = recorded_sync _ _ (Inside.the_type D g).to (Inside.the_type D g).to_one
    (struct_sync (shape (Inside.the_type D g)) (search (sendable, crosses), (rules.the_field_sync, (search (sendable, crosses), (held_sync D g d, tt)))))
