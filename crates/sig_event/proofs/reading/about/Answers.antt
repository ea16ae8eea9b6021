use Rattle.std.proofs.Common.{if◌then◌else◌, ap, ◌∙◌}
use Rattle.std.specs.Prelude.{Ok, Err}
use Rattle.serde_json.specs.View.{view}
use Rattle.sig_event.specs.Events.{type_checks, event_by}
use Rattle.sig_event.specs.Types.{fits_subject}
use Rattle.sig_event.specs.declared.event_fault.EventFault.TheVariants.{Subject}
use Rattle.sig_event.proofs.EventSteps.{payload_fault, subject_fault}
use Rattle.sig_event.proofs.reading.about.Goals as goal

pub returns-in-Ok : goal.returns-in-Ok
returns-in-Ok c =
    let v = view c.args.payload.now in
    subject_fault (type_checks c.args.event_type v) (fits_subject c.args.event_type c.args.subject.now) (event_by c.args.event_type v) _ _ c.in-Ok.ensures
    (c.if_fits.ensures ∙ ap (λ b. if b then Ok c.in-Ok.event else Err Subject) c.fits.ensures)

pub returns-in-Err : goal.returns-in-Err
returns-in-Err c =
    let v = view c.args.payload.now in
    payload_fault (type_checks c.args.event_type v) (fits_subject c.args.event_type c.args.subject.now) (event_by c.args.event_type v) _ _ (ap Err c.of_payload.ensures) c.in-Err.ensures
