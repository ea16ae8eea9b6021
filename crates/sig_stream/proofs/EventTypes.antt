-- The type of an event that was read under a URI.
use Rattle.std.proofs.Common.{◌≡◌, ◌∙◌, ap, sym, List, ℕ, true, Option, Some, None, refl}
use Rattle.std.specs.Prelude.{Ok}
use Rattle.serde_json.specs.Data.{Data}
use Rattle.sig_json.specs.Checks.{first_failing}
use Rattle.sig_json.proofs.Decided.{value_is}
use Rattle.sig_subject.specs.declared.subject.Subject.{Subject}
use Rattle.sig_event.specs.declared.event.Event.{Event}
use Rattle.sig_event.specs.declared.event_type.EventType.{EventType}
use Rattle.sig_event.specs.declared.event_type.EventType.TheVariants.{Caep, Risc, Verification, StreamUpdated}
use Rattle.sig_event.specs.Events.{event_checks, event_in, event_of, type_of_event}
use Rattle.sig_event.specs.Types.{is_published, type_of}

of_type : (type : Option EventType) (uri : List ℕ) (v : Data) → is_published type ≡ true → is_published (type_of_event (event_in type uri v)) ≡ true
of_type None uri v h = cc
of_type (Some (Caep type)) uri v h = refl
of_type (Some (Risc type)) uri v h = refl
of_type (Some Verification) uri v h = cc
of_type (Some StreamUpdated) uri v h = cc

-- under the URI of a type that is published it is of such a type
pub read_published : (uri : List ℕ) (v : Data) (s : Subject) (e : Event) → event_of uri v s ≡ Ok e → is_published (type_of uri) ≡ true → is_published (type_of_event e) ≡ true
read_published uri v s e h published =
    ap (λ x. is_published (type_of_event x)) (sym (value_is (first_failing (event_checks (type_of uri) v s)) (event_in (type_of uri) uri v) e h)) ∙ of_type (type_of uri) uri v published
