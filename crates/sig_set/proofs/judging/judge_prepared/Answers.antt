use Rattle.std.proofs.Common.{◌≡◌, ◌++◌, ◌∙◌, ap, sym, true, rules}
use Rattle.std.proofs.lemmas.Result.{err_from_is_err_and}
use Rattle.std.specs.Prelude.{Some, is_some, option_and_then, option_copied}
use Rattle.serde_json.specs.View.{view}
use Rattle.sig_json.specs.Json.{json_of}
use Rattle.sig_set.specs.Claims.{content_checks}
use Rattle.sig_set.specs.Judgement.{claims_of, form_checks, header_in, payload_in, token_in, trust_checks}
use Rattle.sig_set.proofs.Chains.{behind_part, first_refused}
use Rattle.sig_set.proofs.Judged.{brought, trust_refused, trusted}
use Rattle.sig_set.proofs.judging.judge_prepared.Goals as goal

pub returns-in_err-opened : goal.returns-in_err-opened
returns-in_err-opened c =
    let bytes = c.args.bytes.now in
    let token = token_in bytes in
    let principal = option_copied c.args.principal in
    let behind = trust_checks c.args.trust.now principal token (header_in token) (payload_in token) ++ content_checks (option_copied c.args.named) (payload_in token) in
    let somebody : is_some principal ≡ true = search (rules, c.is_none.ensures, c.if-is_none.false) in
    let p = err_from_is_err_and c.from_residual.result c.from_residual.ensures.1 in
    brought principal (form_checks bytes ++ behind) (claims_of bytes) c.from_residual.result somebody
    (first_refused (form_checks bytes) behind (claims_of bytes) c.in_err-opened.field-0.0 c.from_residual.result (rw p.2 at p.1) c.in_err-opened.ensures.checks)

pub returns-in_err-check_trust : goal.returns-in_err-check_trust
returns-in_err-check_trust c =
    let bytes = c.args.bytes.now in
    let token = token_in bytes in
    let principal = option_copied c.args.principal in
    let named = option_copied c.args.named in
    let opened = c.in_ok-opened.opened in
    let told = c.in_ok-opened.ensures in
    let head : header_in token ≡ Some (view c.value.result.now) = ap header_in told.token ∙ ap (option_and_then json_of) (sym told.header) ∙ c.value.ensures in
    let behind = trust_checks c.args.trust.now principal token (header_in token) (payload_in token) ++ content_checks named (payload_in token) in
    let somebody : is_some principal ≡ true = search (rules, c.is_none.ensures, c.if-is_none.false) in
    let r = c.from_residual-in_err-check_trust.result in
    let p = err_from_is_err_and r c.from_residual-in_err-check_trust.ensures.1 in
    brought principal (form_checks bytes ++ behind) (claims_of bytes) r somebody
    (behind_part (form_checks bytes) behind tt tt (claims_of bytes) r told.checks
    (trust_refused c.args.trust.now principal named token (header_in token) (payload_in token) opened.token (view c.value.result.now) (view opened.payload)
    c.in_err-check_trust.field-0.0 r told.token head told.payload (rw p.2 at p.1) c.in_err-check_trust.ensures))

pub returns : goal.returns
returns c =
    let bytes = c.args.bytes.now in
    let token = token_in bytes in
    let principal = option_copied c.args.principal in
    let named = option_copied c.args.named in
    let opened = c.in_ok-opened.opened in
    let told = c.in_ok-opened.ensures in
    let head : header_in token ≡ Some (view c.value.result.now) = ap header_in told.token ∙ ap (option_and_then json_of) (sym told.header) ∙ c.value.ensures in
    let behind = trust_checks c.args.trust.now principal token (header_in token) (payload_in token) ++ content_checks named (payload_in token) in
    let somebody : is_some principal ≡ true = search (rules, c.is_none.ensures, c.if-is_none.false) in
    brought principal (form_checks bytes ++ behind) (claims_of bytes) c.content.result somebody
    (behind_part (form_checks bytes) behind tt tt (claims_of bytes) c.content.result told.checks
    (trusted c.args.trust.now principal named token (header_in token) (payload_in token) opened.token (view c.value.result.now) (view opened.payload)
    c.content.result told.token head told.payload c.in_ok-check_trust.ensures c.content.ensures))
