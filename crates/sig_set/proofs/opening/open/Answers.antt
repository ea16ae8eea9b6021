use Rattle.std.proofs.Common.{◌++◌, ◌∙◌, ap, sym, subst}
use Rattle.std.proofs.lemmas.Result.{err_from_is_err_and}
use Rattle.std.specs.Prelude.{Option, Err}
use Rattle.serde_json.specs.Data.{Data}
use Rattle.sig_json.specs.Answers.{Answers}
use Rattle.sig_json.specs.Json.{json_of}
use Rattle.sig_set.specs.declared.refusal.Refusal.TheVariants.{Memory}
use Rattle.sig_set.specs.Checks.{outcome, passed}
use Rattle.sig_set.specs.Judgement.{header_checks, header_in, payload_checks, payload_in, text_checks, token_in}
use Rattle.sig_set.proofs.Chains.{behind_part, first_refused}
use Rattle.sig_set.proofs.opening.open.Goals as goal

pub returns-in_err-turn_to-clause-checks : goal.returns-in_err-turn_to-clause-checks
returns-in_err-turn_to-clause-checks c =
    let token = token_in c.args.bytes.now in
    let e = c.in_err-turn_to.field-0.0 in
    let p = err_from_is_err_and c.from_residual-in_err-turn_to.result c.from_residual-in_err-turn_to.ensures.1 in
    let r = outcome c.from_residual-in_err-turn_to.result in
    let same = ap json_of c.as_slice.ensures ∙ sym (ap header_in c.in_ok-token.ensures.token) in
    let told = subst (λ (d : Option Data). Answers {T = Unit {0}} Memory (Err e) (passed (header_checks d))) same c.in_err-turn_to.ensures.checks in
    behind_part (text_checks c.args.bytes.now) (header_checks (header_in token) ++ payload_checks (payload_in token)) tt tt tt r c.in_ok-token.ensures.checks
    (first_refused (header_checks (header_in token)) (payload_checks (payload_in token)) tt e r (ap outcome (rw p.2 at p.1)) told)
