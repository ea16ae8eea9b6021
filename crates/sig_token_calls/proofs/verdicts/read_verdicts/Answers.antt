use Rattle.std.proofs.Common.{◌≡◌, ◌∙◌, ap, ◌++◌, Option, List, ℕ, Some, bytes_eq, get_or, take, arith, rules}
use Rattle.std.specs.Fmt.{decimal}
use Rattle.std.proofs.lemmas.List.{take_all}
use Rattle.sig_terms.specs.declared.call.Reported.{Reported}
use Rattle.sig_token_calls.specs.Verdicts.{verdict, with_verdict}
use Rattle.sig_token_calls.proofs.VerdictLemmas.{refusal_more}
use Rattle.sig_token_calls.proofs.verdicts.read_verdicts.Goals as goal

pub loop-error-preserved : goal.loop-error-preserved
loop-error-preserved c n small =
    let errors : List Reported = c.as_slice-errors.result.now in
    let error : Reported = c.error-item.result in
    let jti : List ℕ = c.args.prefix.now ++ decimal n in
    let is : error ≡ get_or errors c.loop-error.error-index error = search (rules, c.error-item.is) in
    c.in_ok-note_refusal.ensures n small
    ∙ ap (λ (o : Option (Option (List ℕ))). with_verdict o (bytes_eq error.jti jti) (Some error.code)) (c.loop-error.invariant n small)
    ∙ ap (λ (r : Reported). with_verdict (verdict c.args.ask.now.acks (take c.loop-error.error-index errors) jti) (bytes_eq r.jti jti) (Some r.code)) is
    ∙ refusal_more c.args.ask.now.acks errors c.loop-error.error-index error jti (omega arith)

pub returns : goal.returns
returns c n small =
    c.loop-error.invariant n small
    ∙ ap (λ (rs : List Reported). verdict c.args.ask.now.acks rs (c.args.prefix.now ++ decimal n))
    (take_all c.loop-error.error-index c.as_slice-errors.result.now (omega arith) ∙ c.as_slice-errors.ensures)
