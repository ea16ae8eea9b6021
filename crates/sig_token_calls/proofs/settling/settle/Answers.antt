use Rattle.std.proofs.Common.{◌∙◌, ap, sym, Ok}
use Rattle.sig_token_calls.specs.Replies.{told_as}
use Rattle.sig_token_calls.specs.declared.reply.Reply.{Reply}
use Rattle.sig_token_calls.proofs.SettlingLemmas.{settled_reply}
use Rattle.sig_token_calls.proofs.settling.settle.Goals as goal

pub returns-clause-answers : goal.returns-clause-answers
returns-clause-answers c =
    settled_reply c.args.ledger.now.books c.args.stream.now c.args.number c.args.outcome.now c.in_ok-items.items.items c.in_ok-items.ensures
    ∙ ap (λ (r : Reply). Ok (told_as r)) (sym c.in_ok-reply.ensures)
    ∙ ap Ok (sym c.in_ok-step.ensures.reply)
