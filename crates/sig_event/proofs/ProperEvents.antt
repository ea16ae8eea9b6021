-- An event that was read of a payload in order is proper, and is written no deeper.
use Rattle.std.proofs.Common.{◌≡◌, ◌<◌, ◌≤◌, ◌++◌, ◌∙◌, ℕ, List, [], ◌∷◌, Option, Some, option_map, sym, ap, subst, arith}
use Rattle.serde_json.specs.Data.{Data, no_members, depth, members_depth}
use Rattle.serde_json.specs.Read.{max_depth}
use Rattle.serde_json.specs.Written.{compact_text}
use Rattle.sig_json.specs.Members.{IsObject, Words, Kept}
use Rattle.sig_json.specs.Order.{InOrder}
use Rattle.sig_json.specs.Payloads.{put_all}
use Rattle.sig_json.proofs.Fractions.{canonical_kept}
use Rattle.sig_json.proofs.ReadBack.{canon_reads}
use Rattle.sig_json.proofs.ShallowPayloads.{all_shallow}
use Rattle.sig_subject.specs.declared.subject.Subject.{Subject}
use Rattle.sig_caep.proofs.ShallowCaep.{caep_shallow}
use Rattle.sig_risc.proofs.ShallowRisc.{risc_shallow}
use Rattle.sig_event.specs.Events.{state_rules, update_rules, EventIs, IsEvent, payload_of, uri_of, ReadsProper, TextIsPayload}
use Rattle.sig_event.specs.Status.{status_text}
use Rattle.sig_event.specs.Types.{caep_uri, risc_uri, uri_of_type}
use Rattle.sig_event.specs.declared.event.Event.{Event}
use Rattle.sig_event.specs.declared.event.Event.TheVariants as event
use Rattle.sig_event.proofs.CanonicalEvents.{event_canonical, writes_canonical}
use Rattle.sig_event.proofs.ReadsEvents.{reads_events}
use Rattle.sig_event.proofs.WrittenEvents.{written_is}

object_filled : (v : Data) → IsObject v → 0 < depth v
object_filled v (ms, is) = let same = ap depth is in omega arith

-- what is written of an event nests no deeper than the payload that says it
event_shallow : (e : Event) (uri : List ℕ) (v : Data) (s : Subject) → 0 < depth v → InOrder v → depth v ≤ max_depth → EventIs e uri v s → depth (payload_of e) ≤ depth v
event_shallow (event.Caep e) uri v s filled order deep (name, is, h) = caep_shallow e name v filled order deep h
event_shallow (event.Risc e) uri v s filled order deep (name, is, h, fits) = risc_shallow e name v filled order deep h
event_shallow (event.Verification state) uri v s filled order deep (is, h) =
    let kept : List (Option Kept) = option_map (λ t. Words t) state ∷ [] in
    let low : members_depth (put_all state_rules kept no_members) < depth v = all_shallow v state_rules kept no_members h order deep filled in
    omega arith
event_shallow (event.StreamUpdated status reason) uri v s filled order deep (is, h) =
    let kept : List (Option Kept) = Some (Words (status_text status)) ∷ option_map (λ t. Words t) reason ∷ [] in
    let low : members_depth (put_all update_rules kept no_members) < depth v = all_shallow v update_rules kept no_members h order deep filled in
    omega arith
event_shallow (event.Other other) uri v s filled order deep h = omega arith

-- the URI is that of the event
uri_is : (e : Event) (uri : List ℕ) (v : Data) (s : Subject) → EventIs e uri v s → uri ≡ uri_of e
unfolding uri_of_type
uri_is (event.Caep e) uri v s (name, is, h) = is ∙ ap (λ n. caep_uri ++ n) (sym h.named)
uri_is (event.Risc e) uri v s (name, is, h, fits) = is ∙ ap (λ n. risc_uri ++ n) (sym h.named)
uri_is (event.Verification state) uri v s (is, h) = is
uri_is (event.StreamUpdated status reason) uri v s (is, h) = is
uri_is (event.Other other) uri v s (is, none) = sym is

pub reads_proper : ReadsProper
reads_proper uri v s e order deep read =
    let is : IsEvent e uri v s = (reads_events e uri v s).1 read in
    let low : depth (payload_of e) ≤ depth v = event_shallow e uri v s (object_filled v is.0) order deep is.1 in
    let written : IsEvent e uri (payload_of e) s = written_is e uri v s order deep is in (
      (payload_of e, canon_reads (payload_of e) (event_canonical e uri v s order deep is.1) (omega arith), subst (λ u. IsEvent e u (payload_of e) s) (uri_is e uri v s is.1) written),
      low,
    )

pub text_is_payload : TextIsPayload
text_is_payload e s proper = ap (λ d. compact_text d) (canonical_kept (payload_of e) (writes_canonical e s proper))
