use Rattle.std.proofs.Common.{sym, ◌∙◌}
use Rattle.sig_txroutes.proofs.ProperLemmas.{asked_long, asked_within, proper_within}
use Rattle.sig_txroutes.proofs.routing.call_of.Goals as goal

pub returns-then-is_long-clause-answers : goal.returns-then-is_long-clause-answers
returns-then-is_long-clause-answers c =
    asked_long c.args.request.now c.args.rules.now c.too_long.result (sym c.is_long.ensures ∙ c.if-is_long.true) c.too_long.ensures

pub returns-clause-answers : goal.returns-clause-answers
returns-clause-answers c =
    asked_within c.args.request.now c.args.rules.now c.routed.result (sym c.is_long.ensures ∙ c.if-is_long.false) c.routed.ensures

pub returns-clause-proper : goal.returns-clause-proper
returns-clause-proper c =
    proper_within c.args.request.now c.args.rules.now c.routed.result (sym c.is_long.ensures ∙ c.if-is_long.false) c.routed.ensures
