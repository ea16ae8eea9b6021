use Rattle.std.proofs.Common.{◌∙◌, ap, sym, subst, ℕ, ◌+◌, ◌≤◌, List, None, Result, Ok, arith}
use Rattle.sig_json.specs.Answers.{Answers, result_map}
use Rattle.sig_json.specs.declared.limits.TheConstants.{LAST_NUMBER}
use Rattle.sig_event.specs.declared.status.Status.{Status}
use Rattle.sig_terms.specs.declared.answer.Answer.{Answer}
use Rattle.sig_terms.specs.declared.answer.Answer.TheVariants as answer
use Rattle.sig_terms.specs.declared.fault.PrepareFault.{PrepareFault}
use Rattle.sig_terms.specs.declared.fault.PrepareFault.TheVariants.{Memory}
use Rattle.sig_terms.specs.Reply.{Reply}
use Rattle.sig_calls.specs.Equality.{status_eq}
use Rattle.sig_accounts.specs.Owings.{owing_named}
use Rattle.sig_ledger.specs.Steps.{reply_in}
use Rattle.sig_token_calls.proofs.MakingLemmas.{only_reply}
use Rattle.sig_token_calls.proofs.FoundLemmas.{found_numbered}
use Rattle.sig_token_calls.proofs.MadeLemmas.{is_operated, not_operated, same_operated}
use Rattle.sig_token_calls.proofs.PolledLemmas.{answered}
use Rattle.sig_token_calls.proofs.operating.operator_status.Goals as goal

pub returns-in-None-clause-answers : goal.returns-in-None-clause-answers
returns-in-None-clause-answers c =
    not_operated c.args.ledger.now.books c.args.stream.now c.args.status c.args.reason.now c.args.now
    (c.in-None.ensures.found ∙ ap (λ (n : List ℕ). owing_named n c.args.ledger.now.books.owings) c.as_str.ensures.same)
    ∙ ap Ok (sym (only_reply c.only.result answer.NotFound c.only.ensures.answer c.only.ensures.change))

pub returns-then-is_same-clause-answers : goal.returns-then-is_same-clause-answers
returns-then-is_same-clause-answers c =
    same_operated c.args.ledger.now.books c.args.stream.now c.args.status c.args.reason.now c.args.now c.in-Some.account.now.owing
    (c.in-Some.ensures.found ∙ ap (λ (n : List ℕ). owing_named n c.args.ledger.now.books.owings) c.as_str.ensures.same)
    (ap (λ (s : Status). status_eq s c.args.status) (sym c.status.ensures) ∙ sym c.is_same.ensures ∙ c.if-is_same.true)
    ∙ ap (λ (a : Answer). Ok (answered a None)) (sym c.in_ok-answer-in-Some.ensures)
    ∙ ap Ok (sym (only_reply c.only-then-is_same.result c.in_ok-answer-in-Some.answer c.only-then-is_same.ensures.answer c.only-then-is_same.ensures.change))

pub overflow_add-number : goal.overflow_add-number
overflow_add-number c =
    let most : c.in-Some.account.now.owing.stream.made ≤ LAST_NUMBER =
    found_numbered c.args.ledger.now.books c.args.stream.now c.in-Some.account.now.owing
    (c.in-Some.ensures.found ∙ ap (λ (n : List ℕ). owing_named n c.args.ledger.now.books.owings) c.as_str.ensures.same) c.in-Some.ensures.kept in
    omega (arith, most, c.made-number.ensures)

pub returns-else-is_same-clause-answers : goal.returns-else-is_same-clause-answers
returns-else-is_same-clause-answers c =
    subst (λ (t : Result Reply PrepareFault). Answers Memory (result_map reply_in c.set.result) t)
    (is_operated c.args.ledger.now.books c.args.stream.now c.args.status c.args.reason.now c.args.now c.in-Some.account.now.owing _
    (c.in-Some.ensures.found ∙ ap (λ (n : List ℕ). owing_named n c.args.ledger.now.books.owings) c.as_str.ensures.same)
    (ap (λ (s : Status). status_eq s c.args.status) (sym c.status.ensures) ∙ sym c.is_same.ensures ∙ c.if-is_same.false)
    (ap (λ (n : ℕ). n + 1) c.made-number.ensures))
    c.set.ensures.answers
