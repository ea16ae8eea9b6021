use Rattle.std.proofs.Common.{◌∙◌, ap, sym, ℕ, List, Option, None, Ok}
use Rattle.sig_terms.specs.declared.answer.Answer.{Answer}
use Rattle.sig_history.specs.Streams.{Parts, Publication}
use Rattle.sig_calls.specs.Publishing.{published_after}
use Rattle.sig_calls.specs.Told.{outcome}
use Rattle.sig_ledger.specs.Books.{sum_in}
use Rattle.sig_token_calls.proofs.MakingLemmas.{only_reply}
use Rattle.sig_token_calls.specs.Replies.{later_answer}
use Rattle.sig_token_calls.proofs.PolledLemmas.{answered}
use Rattle.sig_token_calls.proofs.MadeLemmas.{later_reply}
use Rattle.sig_token_calls.proofs.publishing.publish.Goals as goal

pub returns-in-Some-clause-answers : goal.returns-in-Some-clause-answers
returns-in-Some-clause-answers c =
    let parts : Parts = (sum_in c.args.ledger.now.books).parts in
    ap (λ (o : Option Publication). outcome (published_after parts c.args.id.now c.args.news.now c.args.now o)) (sym c.in-Some.ensures)
    ∙ later_reply parts c.args.news.now c.in-Some.publication.now
    ∙ ap (λ (sid : List ℕ). Ok (answered (later_answer sid c.in-Some.publication.now c.args.news.now) None)) (sym c.store_id.ensures)
    ∙ ap (λ (a : Answer). Ok (answered a None)) (sym c.in_ok-answer.ensures)
    ∙ ap Ok (sym (only_reply c.only.result c.in_ok-answer.answer c.only.ensures.answer c.only.ensures.change))
