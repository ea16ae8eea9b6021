use Rattle.std.proofs.Common.{◌++◌, refl}
use Rattle.std.proofs.lemmas.Result.{err_from_is_err_and}
use Rattle.std.specs.Prelude.{Some, [], option_copied, unwrap_or}
use Rattle.serde_json.specs.View.{view}
use Rattle.sig_set.specs.Claims.{claims_in, event_checks, events_in, events_of, stamp_checks, subject_checks, subject_in}
use Rattle.sig_set.proofs.Contents.{claims_told, events_refused, stamp_refused, subject_refused}
use Rattle.sig_set.proofs.content.content.Goals as goal

pub returns-in_err-check_stamp : goal.returns-in_err-check_stamp
returns-in_err-check_stamp c =
    let v = view c.args.payload.now in
    let p = err_from_is_err_and c.from_residual.result c.from_residual.ensures.1 in
    stamp_refused (stamp_checks (option_copied c.args.named) (Some v)) (subject_checks (Some v) ++ event_checks (subject_in (Some v)) (Some v)) (claims_in (Some v)) c.in_err-check_stamp.field-0.0 c.from_residual.result (rw p.2 at p.1) c.in_err-check_stamp.ensures

pub returns-in_err-subject : goal.returns-in_err-subject
returns-in_err-subject c =
    let v = view c.args.payload.now in
    let p = err_from_is_err_and c.from_residual-in_err-subject.result c.from_residual-in_err-subject.ensures.1 in
    subject_refused (stamp_checks (option_copied c.args.named) (Some v)) (subject_checks (Some v)) (event_checks (subject_in (Some v)) (Some v)) (subject_in (Some v)) (claims_in (Some v)) c.in_err-subject.field-0.0
    c.from_residual-in_err-subject.result (rw p.2 at p.1) c.in_ok-check_stamp.ensures c.in_err-subject.ensures

pub returns-in_err-events : goal.returns-in_err-events
returns-in_err-events c =
    let v = view c.args.payload.now in
    let p = err_from_is_err_and c.from_residual-in_err-events.result c.from_residual-in_err-events.ensures.1 in
    events_refused (stamp_checks (option_copied c.args.named) (Some v)) (subject_checks (Some v)) (λ s. event_checks s (Some v)) (subject_in (Some v)) c.in_ok-subject.subject
    (λ s. unwrap_or (events_of s (events_in (Some v))) []) (claims_in (Some v)) c.in_err-events.field-0.0
    c.from_residual-in_err-events.result (rw p.2 at p.1) c.in_ok-check_stamp.ensures c.in_ok-subject.ensures c.in_err-events.ensures

pub returns : goal.returns
returns c =
    let v = view c.args.payload.now in
    claims_told (stamp_checks (option_copied c.args.named) (Some v)) (subject_checks (Some v)) (λ s. event_checks s (Some v)) (subject_in (Some v)) c.in_ok-subject.subject
    (λ s. unwrap_or (events_of s (events_in (Some v))) []) c.in_ok-events.events (claims_in (Some v)) c.in_ok-claims.claims
    c.in_ok-check_stamp.ensures c.in_ok-subject.ensures c.in_ok-events.ensures refl refl c.in_ok-claims.ensures
