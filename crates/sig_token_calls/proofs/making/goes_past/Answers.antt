use Rattle.sig_token_calls.proofs.TokenLemmas.{past_from, told_held}
use Rattle.sig_token_calls.proofs.making.goes_past.Goals as goal

pub any_full-requires : goal.any_full-requires
any_full-requires c = told_held c.args.ledger.now.books c.accounts.result.now c.args.addressed.now c.accounts.ensures.accounts c.requires

pub returns : goal.returns
returns c =
    past_from c.args.ledger.now.books c.accounts.result.now c.args.addressed.now.fact c.any_full.result c.any_full.ensures c.accounts.ensures.accounts
