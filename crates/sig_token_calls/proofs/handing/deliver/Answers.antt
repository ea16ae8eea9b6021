use Rattle.std.proofs.Common.{◌∙◌, ap, sym, ℕ, List, None, Ok}
use Rattle.sig_terms.specs.declared.answer.Answer.TheVariants as answer
use Rattle.sig_accounts.specs.Owings.{owing_named}
use Rattle.sig_token_calls.proofs.MakingLemmas.{only_reply}
use Rattle.sig_token_calls.proofs.HandingLemmas.{is_delivered, not_delivered, poll_not_delivered}
use Rattle.sig_token_calls.proofs.PolledLemmas.{answered}
use Rattle.sig_token_calls.proofs.handing.deliver.Goals as goal

pub returns-in-None-clause-answers : goal.returns-in-None-clause-answers
returns-in-None-clause-answers c =
    not_delivered c.args.ledger.now.books c.args.stream.now
    (c.in-None.ensures.found ∙ ap (λ (n : List ℕ). owing_named n c.args.ledger.now.books.owings) c.as_str.ensures.same)
    ∙ ap Ok (sym (only_reply c.only.result answer.NotFound c.only.ensures.answer c.only.ensures.change))

pub returns-then-not-is_pushed-clause-answers : goal.returns-then-not-is_pushed-clause-answers
returns-then-not-is_pushed-clause-answers c =
    poll_not_delivered c.args.ledger.now.books c.args.stream.now c.in-Some.account.now.owing
    (c.in-Some.ensures.found ∙ ap (λ (n : List ℕ). owing_named n c.args.ledger.now.books.owings) c.as_str.ensures.same)
    (sym c.is_pushed.ensures ∙ c.if-not-is_pushed.true)
    ∙ ap Ok (sym (only_reply c.only-then-not-is_pushed.result answer.NotFound c.only-then-not-is_pushed.ensures.answer c.only-then-not-is_pushed.ensures.change))

pub returns-in_ok-stream-in-Some-clause-answers : goal.returns-in_ok-stream-in-Some-clause-answers
returns-in_ok-stream-in-Some-clause-answers c =
    is_delivered c.args.ledger.now.books c.args.stream.now c.in-Some.account.now.owing
    (c.in-Some.ensures.found ∙ ap (λ (n : List ℕ). owing_named n c.args.ledger.now.books.owings) c.as_str.ensures.same)
    (sym c.is_pushed.ensures ∙ c.if-not-is_pushed.false)
    ∙ ap (λ (n : List ℕ). Ok (answered (answer.Delivering n) None)) (sym c.in_ok-stream-in-Some.ensures)
    ∙ ap Ok (sym (only_reply c.only-in-Some.result (answer.Delivering c.in_ok-stream-in-Some.stream) c.only-in-Some.ensures.answer c.only-in-Some.ensures.change))
