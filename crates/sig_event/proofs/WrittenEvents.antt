-- The payload that is written of an event says that event.
use Rattle.std.proofs.Common.{◌≤◌, ℕ, List, [], ◌∷◌, Option, Some, option_map, refl}
use Rattle.serde_json.specs.Data.{Data, depth}
use Rattle.serde_json.specs.Read.{max_depth}
use Rattle.sig_json.specs.Members.{Words, Kept, IsObject}
use Rattle.sig_json.proofs.PutMembers.{payload_has, have_proper}
use Rattle.sig_json.proofs.Spelled.{spelled_in_order, spelled_depth}
use Rattle.sig_json.specs.Order.{InOrder}
use Rattle.sig_subject.specs.declared.subject.Subject.{Subject}
use Rattle.sig_caep.proofs.WrittenCaep.{caep_written}
use Rattle.sig_risc.proofs.WrittenRisc.{risc_written}
use Rattle.sig_event.specs.Status.{status_text}
use Rattle.sig_event.specs.Events.{state_rules, update_rules, EventIs, IsEvent, payload_of, uri_of, ReadsWritten}
use Rattle.sig_event.specs.declared.event.Event.{Event}
use Rattle.sig_event.specs.declared.event.Event.TheVariants as event
use Rattle.sig_event.proofs.ReadsEvents.{reads_events}

is_object : (e : Event) → IsObject (payload_of e)
is_object (event.Caep e) = (_, refl)
is_object (event.Risc e) = (_, refl)
is_object (event.Verification state) = (_, refl)
is_object (event.StreamUpdated status reason) = (_, refl)
is_object (event.Other uri) = (_, refl)

event_written : (e : Event) (uri : List ℕ) (v : Data) (s : Subject) → InOrder v → depth v ≤ max_depth → EventIs e uri v s → EventIs e uri (payload_of e) s
event_written (event.Caep e) uri v s order deep (name, is, h) = (name, is, caep_written e name v order deep h)
event_written (event.Risc e) uri v s order deep (name, is, h, fits) = (name, is, risc_written e name v order deep h, fits)
event_written (event.Verification state) uri v s order deep (is, h) =
    let kept : List (Option Kept) = option_map (λ t. Words t) state ∷ [] in
    (is, payload_has state_rules kept (refl, tt) (have_proper v state_rules kept order deep h))
event_written (event.StreamUpdated status reason) uri v s order deep (is, h) =
    let kept : List (Option Kept) = Some (Words (status_text status)) ∷ option_map (λ t. Words t) reason ∷ [] in
    (is, payload_has update_rules kept (refl, (refl, tt)) (have_proper v update_rules kept order deep h))
event_written (event.Other other) uri v s order deep h = h

-- an event that a payload says, where a text spells it, is said by what is written of the event
pub written_is : (e : Event) (uri : List ℕ) (v : Data) (s : Subject) → InOrder v → depth v ≤ max_depth → IsEvent e uri v s → IsEvent e uri (payload_of e) s
written_is e uri v s order deep h = (is_object e, event_written e uri v s order deep h.1)

pub reads_written : ReadsWritten
reads_written e s (v, is, h) =
    (reads_events e (uri_of e) (payload_of e) s).0 (written_is e (uri_of e) v s (spelled_in_order _ v is) (spelled_depth _ v is) h)
