use Rattle.std.proofs.Common.{◌∙◌, ap, subst, ℕ, ◌-◌, drop, map, take}
use Rattle.sig_json.specs.Answers.{Answers, result_map}
use Rattle.sig_terms.specs.declared.fault.PrepareFault.TheVariants.{Memory}
use Rattle.sig_calls.specs.Told.{Told, outcome, with_change}
use Rattle.sig_calls.specs.declared.limits.TheConstants.{REFUSED_PER_PAGE}
use Rattle.sig_accounts.specs.Reported.{refused_at}
use Rattle.sig_ledger.specs.Steps.{reply_in}
use Rattle.sig_stream_calls.specs.declared.turn.Turn.{Turn}
use Rattle.sig_stream_calls.proofs.RefusingLemmas.{page_told}
use Rattle.sig_stream_calls.proofs.refusing.refused.Goals as goal

pub returns-clause-answers : goal.returns-clause-answers
returns-clause-answers c =
    subst (λ (t : Told). Answers Memory (result_map reply_in c.finish.result) (outcome t))
    (page_told c.args.ledger.now.books c.refused-refusals.result.now.reported c.published.result.now c.args.from c.place_behind-next.result c.in_ok-tokens.tokens
    c.refused-refusals.ensures.refused c.published.ensures c.place_behind-next.ensures
    (c.in_ok-tokens.ensures
    ∙ ap (λ (n : ℕ). map (refused_at c.published.result.now) (take REFUSED_PER_PAGE (drop n c.refused-refusals.result.now.reported.kept)))
    (c.saturating_sub-start.ensures ∙ ap (λ (n : ℕ). c.args.from - n) c.before-2.ensures)))
    (subst (λ (t : Turn). Answers Memory (result_map reply_in c.finish.result) (outcome (with_change t.answer t.change))) c.only.ensures c.finish.ensures.answers)
