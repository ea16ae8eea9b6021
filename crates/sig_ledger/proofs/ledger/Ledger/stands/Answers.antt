use Rattle.std.proofs.Common.{◌∙◌, ap, List, ℕ}
use Rattle.sig_accounts.specs.Owings.{owing_named}
use Rattle.sig_ledger.proofs.FoundLemmas.{stands_found}
use Rattle.sig_ledger.proofs.ledger.Ledger.stands.Goals as goal

pub returns : goal.returns
returns c = c.is_some.ensures ∙ stands_found c.args.self.now.books c.args.stream.now _ c.account.result
    (c.account.ensures.found ∙ ap (λ (n : List ℕ). owing_named n c.args.self.now.books.owings) c.as_str.ensures.same)
