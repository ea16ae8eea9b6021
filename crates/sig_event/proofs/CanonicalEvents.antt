-- The payload that is written of a proper event is canonical.
use Rattle.std.proofs.Common.{◌≤◌, ℕ, List, [], ◌∷◌, Option, Some, option_map, refl}
use Rattle.serde_json.specs.Data.{Data, no_members, depth}
use Rattle.serde_json.specs.Read.{max_depth}
use Rattle.sig_json.specs.Canon.{IsCanonical}
use Rattle.sig_json.specs.Members.{Words, Kept}
use Rattle.sig_json.proofs.CanonicalPayloads.{are_named, all_canonical}
use Rattle.sig_json.proofs.Spelled.{spelled_in_order, spelled_depth}
use Rattle.sig_json.specs.Order.{InOrder}
use Rattle.sig_subject.specs.declared.subject.Subject.{Subject}
use Rattle.sig_caep.proofs.CanonicalCaep.{caep_canonical}
use Rattle.sig_risc.proofs.CanonicalRisc.{risc_canonical}
use Rattle.sig_event.specs.Status.{status_text}
use Rattle.sig_event.specs.Events.{state_rules, update_rules, EventIs, payload_of, WritesCanonical}
use Rattle.sig_event.specs.declared.event.Event.{Event}
use Rattle.sig_event.specs.declared.event.Event.TheVariants as event

-- what is written of an event that a payload says, where a text spells that payload
pub event_canonical : (e : Event) (uri : List ℕ) (v : Data) (s : Subject) → InOrder v → depth v ≤ max_depth → EventIs e uri v s → IsCanonical (payload_of e)
event_canonical (event.Caep e) uri v s order deep (name, is, h) = caep_canonical e name v order deep h
event_canonical (event.Risc e) uri v s order deep (name, is, h, fits) = risc_canonical e name v order deep h
event_canonical (event.Verification state) uri v s order deep (is, h) =
    let kept : List (Option Kept) = option_map (λ t. Words t) state ∷ [] in
    all_canonical v state_rules kept no_members h order deep (are_named state_rules refl) tt
event_canonical (event.StreamUpdated status reason) uri v s order deep (is, h) =
    let kept : List (Option Kept) = Some (Words (status_text status)) ∷ option_map (λ t. Words t) reason ∷ [] in
    all_canonical v update_rules kept no_members h order deep (are_named update_rules refl) tt
event_canonical (event.Other other) uri v s order deep h = tt

pub writes_canonical : WritesCanonical
writes_canonical e s (v, is, h) = event_canonical e _ v s (spelled_in_order _ v is) (spelled_depth _ v is) h.1
