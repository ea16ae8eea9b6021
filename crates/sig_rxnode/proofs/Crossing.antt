-- What a node is made of may cross threads.
use denote.RattleType.{RattleType}
use denote.Struct.Declared.{shape}
use denote.Param.Send.{IsSend, IsSync, recorded_send, recorded_sync, sendable, struct_send, struct_sync}
use Rattle.std.proofs.Crossing.{crosses}
use Rattle.std.proofs.MapsCrossing as maps
use Rattle.serde_json.proofs.value.Value.TheLaws.TheKnot.{send-Value, sync-Value}
use Rattle.sig_json.specs.contracts.bytes.Bytes as Bytes
use Rattle.sig_inbox.proofs.seen.Seen.TheSendSync as seen
use Rattle.sig_sessions.proofs.table.Table.TheSendSync as table
use Rattle.sig_set.specs.contracts.last_header.Header as Header
use Rattle.sig_set.specs.contracts.last_header.LastHeader as LastHeader
use Rattle.sig_receiver.specs.contracts.receiver.Receiver as Receiver
use Rattle.sig_outside.specs.declared.disk.Disk.{Ghosts}
use Rattle.sig_past.specs.contracts.past.Past as Past
use Rattle.sig_set.proofs.prepared.PreparedTrust.TheSendSync as trust
use Rattle.sig_journal.proofs.store.Store.TheSendSync as store
use Rattle.sig_rxnode.proofs.rules.RxRules.TheSendSync as rules
use Rattle.sig_rxnode.specs.contracts.journalled.Journalled as Journalled
use Rattle.sig_rxnode.specs.contracts.node.RxNode.TheInside as Inside
use Rattle.sig_rxnode.specs.contracts.turn.RxTurn as Turn

bytes_send : IsSend Bytes.the_row
bytes_send = search (sendable, crosses) depth 60 fits 20000

bytes_sync : IsSync Bytes.the_row
bytes_sync = search (sendable, crosses) depth 60 fits 20000

header_send : IsSend Header.the_row
header_send = search (send-Value, bytes_send, sendable, crosses, maps.crosses) depth 60 fits 20000

header_sync : IsSync Header.the_row
header_sync = search (sync-Value, bytes_sync, sendable, crosses, maps.crosses) depth 60 fits 20000

last_send : IsSend LastHeader.the_row
last_send = search (header_send, sendable, crosses) depth 60 fits 20000

last_sync : IsSync LastHeader.the_row
last_sync = search (header_sync, sendable, crosses) depth 60 fits 20000

receiver_send : IsSend Receiver.the_row
receiver_send = search (seen.the_send, table.the_send, last_send, sendable, crosses) depth 60 fits 20000

receiver_sync : IsSync Receiver.the_row
receiver_sync = search (seen.the_sync, table.the_sync, last_sync, sendable, crosses) depth 60 fits 20000

texts_send : IsSend (Past.the_field Bytes.the_row).row
texts_send = search (sendable, crosses) depth 60 fits 20000

texts_sync : IsSync (Past.the_field Bytes.the_row).row
texts_sync = search (sendable, crosses) depth 60 fits 20000

turns_send : IsSend (Past.the_field Turn.the_row).row
turns_send = search (sendable, crosses) depth 60 fits 20000

turns_sync : IsSync (Past.the_field Turn.the_row).row
turns_sync = search (sendable, crosses) depth 60 fits 20000

journalled_send : (D : RattleType) (g : Ghosts D.Denot) → IsSend D → IsSend (Journalled.the_field D g).row
journalled_send D g d = struct_send (shape (Journalled.the_type D g)) (search (sendable, crosses), (receiver_send, (texts_send, (store.the_send D g d, tt))))

pub inside_send : (D : RattleType) (g : Ghosts D.Denot) → IsSend D → IsSend (Inside.the_row D g)
inside_send D g d = recorded_send _ _ (Inside.the_type D g).to (Inside.the_type D g).to_one (struct_send (shape (Inside.the_type D g)) (journalled_send D g d, (rules.the_field_send, (trust.the_send, (turns_send, (search (sendable, crosses), tt))))))

journalled_sync : (D : RattleType) (g : Ghosts D.Denot) → IsSync D → IsSync (Journalled.the_field D g).row
journalled_sync D g d = struct_sync (shape (Journalled.the_type D g)) (search (sendable, crosses), (receiver_sync, (texts_sync, (store.the_sync D g d, tt))))

pub inside_sync : (D : RattleType) (g : Ghosts D.Denot) → IsSync D → IsSync (Inside.the_row D g)
inside_sync D g d = recorded_sync _ _ (Inside.the_type D g).to (Inside.the_type D g).to_one (struct_sync (shape (Inside.the_type D g)) (journalled_sync D g d, (rules.the_field_sync, (trust.the_sync, (turns_sync, (search (sendable, crosses), tt))))))
