use Rattle.std.proofs.Common.{◌≡◌, true, false, ap, rules}
use Rattle.std.specs.Prelude.{Err, Some, is_some}
use Rattle.std.proofs.lemmas.Result.{err_from_is_err_and}
use Rattle.serde_json.specs.View.{view}
use Rattle.sig_set.specs.Claims.{audience_in}
use Rattle.sig_set.specs.Judgement.{claims_of, form_checks, payload_in, token_in}
use Rattle.sig_set.proofs.Chains.{first_refused}
use Rattle.sig_set.proofs.Judged.{audience_refused, spoken, spoken_checks}
use Rattle.sig_set.proofs.reading.spoken.Goals as goal

pub returns-in_err-opened : goal.returns-in_err-opened
returns-in_err-opened c =
    let bytes = c.args.bytes.now in
    let p = err_from_is_err_and c.from_residual.result c.from_residual.ensures.1 in
    first_refused (form_checks bytes) (spoken_checks (payload_in (token_in bytes))) (claims_of bytes) c.in_err-opened.field-0.0 c.from_residual.result (rw p.2 at p.1) c.in_err-opened.ensures.checks

pub returns-then-is_none : goal.returns-then-is_none
returns-then-is_none c =
    let bytes = c.args.bytes.now in
    let missing : is_some (audience_in (Some (view c.in_ok-opened.opened.payload))) ≡ false = search rules in
    audience_refused (form_checks bytes) (payload_in (token_in bytes)) (view c.in_ok-opened.opened.payload) (Err c.refused.result) c.in_ok-opened.ensures.payload c.in_ok-opened.ensures.checks missing (ap Err c.refused.ensures)

pub returns : goal.returns
returns c =
    let bytes = c.args.bytes.now in
    let there : is_some (audience_in (Some (view c.in_ok-opened.opened.payload))) ≡ true = search rules in
    spoken (form_checks bytes) (payload_in (token_in bytes)) (view c.in_ok-opened.opened.payload) c.content.result c.in_ok-opened.ensures.payload c.in_ok-opened.ensures.checks there c.content.ensures
