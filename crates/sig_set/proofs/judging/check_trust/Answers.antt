use Rattle.std.proofs.lemmas.Result.{err_from_is_err_and}
use Rattle.std.specs.Prelude.{option_copied}
use Rattle.serde_json.specs.View.{view}
use Rattle.sig_set.proofs.Judged.{verify_refused}
use Rattle.sig_set.proofs.judging.check_trust.Goals as goal

pub returns-in_err-verify : goal.returns-in_err-verify
returns-in_err-verify c =
    let trust = c.args.trust.now in
    let opened = c.args.opened.now in
    let p = err_from_is_err_and c.from_residual-in_err-verify.result c.from_residual-in_err-verify.ensures.1 in
    verify_refused trust.issuers c.issuers.result.now c.in_ok-issuer.issuer.now (option_copied c.args.principal) trust.audience opened.token (view c.args.header.now) (view opened.payload)
    c.in_err-verify.field-0.0 c.from_residual-in_err-verify.result c.issuers.ensures c.in_ok-issuer.ensures.issuer c.in_ok-issuer.ensures.checks (rw p.2 at p.1) c.in_err-verify.ensures
