use Rattle.std.proofs.Common.{◌∙◌, ap, subst, ℕ, List, map}
use Rattle.sig_json.specs.Answers.{Answers, result_map}
use Rattle.sig_terms.specs.declared.answer.Answer.TheVariants as answer
use Rattle.sig_terms.specs.declared.fact.Fact.{Fact}
use Rattle.sig_terms.specs.declared.fault.PrepareFault.TheVariants.{Memory}
use Rattle.sig_terms.specs.declared.token.Issued.{Issued}
use Rattle.sig_history.specs.Streams.{Parts, issued_of}
use Rattle.sig_history.specs.Facts.{made_by}
use Rattle.sig_calls.specs.Told.{Told, making, outcome}
use Rattle.sig_ledger.specs.Books.{sum_in}
use Rattle.sig_ledger.specs.Steps.{reply_in}
use Rattle.sig_token_calls.proofs.publishing.publish_first.Goals as goal

pub returns-clause-answers : goal.returns-clause-answers
returns-clause-answers c =
    let parts : Parts = (sum_in c.args.ledger.now.books).parts in
    let f : Fact = c.in_ok-addressed.addressed.fact in
    subst (λ (t : Told). Answers Memory (result_map reply_in c.make_told.result) (outcome t))
    (ap (λ (sid : List ℕ). making parts (answer.Published sid c.in_ok-tokens.tokens) f) c.store_id.ensures
    ∙ ap (λ (ts : List Issued). making parts (answer.Published parts.store_id ts) f) c.in_ok-tokens.ensures
    ∙ ap (λ (g : Fact). making parts (answer.Published parts.store_id (map issued_of (made_by parts g))) g) (c.in_ok-addressed.ensures.fact ∙ c.in_ok-fact.ensures))
    c.make_told.ensures.answers
