use Rattle.std.proofs.Common.{◌∙◌, ap, [], ◌∷◌}
use Rattle.sig_history.specs.Owed.{sum_of}
use Rattle.sig_ledger.specs.Books.{Books, sum_in}
use Rattle.sig_terms.specs.declared.fact.Fact.{Fact}
use Rattle.sig_outbox.proofs.applying.take.Goals as goal

pub returns-clause-takes : goal.returns-clause-takes
returns-clause-takes c =
    c.commit.ensures
    ∙ ap (λ (b : Books). sum_of (sum_in b) (c.in_ok-prepared.prepared.fact ∷ [])) c.in_ok-prepared.ensures.keeps
    ∙ ap (λ (f : Fact). sum_of (sum_in c.args.ledger.now.books) (f ∷ [])) c.in_ok-prepared.ensures.fact
