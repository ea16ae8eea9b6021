use Rattle.std.proofs.Common.{◌∙◌, ap, sym, subst, ℕ, ◌+◌, ◌≤◌, Result, Ok, arith}
use Rattle.sig_json.specs.Answers.{Answers, result_map}
use Rattle.sig_json.specs.declared.limits.TheConstants.{LAST_NUMBER}
use Rattle.sig_terms.specs.declared.answer.Answer.TheVariants as answer
use Rattle.sig_terms.specs.declared.fault.PrepareFault.{PrepareFault}
use Rattle.sig_terms.specs.declared.fault.PrepareFault.TheVariants.{Memory}
use Rattle.sig_terms.specs.Reply.{Reply}
use Rattle.sig_ledger.specs.Steps.{reply_in}
use Rattle.sig_token_calls.proofs.MakingLemmas.{only_reply}
use Rattle.sig_token_calls.proofs.FoundLemmas.{client_named, found_numbered}
use Rattle.sig_token_calls.proofs.MadeLemmas.{is_verified, not_verified, refused_verified}
use Rattle.sig_token_calls.proofs.verifying.verify.Goals as goal

pub returns-in-None-clause-answers : goal.returns-in-None-clause-answers
returns-in-None-clause-answers c =
    not_verified c.args.ledger.now.books c.args.client.now c.args.stream.now c.args.state.now c.args.now c.in-None.ensures.found
    ∙ ap Ok (sym (only_reply c.only.result answer.NotFound c.only.ensures.answer c.only.ensures.change))

pub returns-in-Some-refusal-clause-answers : goal.returns-in-Some-refusal-clause-answers
returns-in-Some-refusal-clause-answers c =
    refused_verified c.args.ledger.now.books c.args.client.now c.args.stream.now c.args.state.now c.args.now c.in-Some.account.now.owing
    c.in-Some-refusal.answer c.in-Some.ensures.found c.in-Some-refusal.ensures
    ∙ ap Ok (sym (only_reply c.only-in-Some-refusal.result c.in-Some-refusal.answer c.only-in-Some-refusal.ensures.answer c.only-in-Some-refusal.ensures.change))

pub overflow_add-number : goal.overflow_add-number
overflow_add-number c =
    let most : c.in-Some.account.now.owing.stream.made ≤ LAST_NUMBER =
    found_numbered c.args.ledger.now.books c.args.stream.now c.in-Some.account.now.owing
    (client_named c.args.ledger.now.books c.args.client.now c.args.stream.now c.in-Some.account.now.owing c.in-Some.ensures.found c.in-Some.ensures.kept) c.in-Some.ensures.kept in
    omega (arith, most, c.made-number.ensures)

pub returns-in-None-refusal-clause-answers : goal.returns-in-None-refusal-clause-answers
returns-in-None-refusal-clause-answers c =
    subst (λ (t : Result Reply PrepareFault). Answers Memory (result_map reply_in c.ask.result) t)
    (is_verified c.args.ledger.now.books c.args.client.now c.args.stream.now c.args.state.now c.args.now c.in-Some.account.now.owing _
    c.in-Some.ensures.found c.in-None-refusal.ensures (ap (λ (n : ℕ). n + 1) c.made-number.ensures))
    c.ask.ensures.answers
