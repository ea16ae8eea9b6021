use Rattle.std.proofs.Common.{◌≡◌, ◌∙◌, ap, subst, ℕ, IfOk}
use Rattle.sig_history.specs.Facts.{time_of}
use Rattle.sig_token_calls.specs.Sizes.{shared_bytes}
use Rattle.sig_token_calls.proofs.SizeLemmas.{most_is}
use Rattle.sig_token_calls.proofs.TokenLemmas.{all_numbered, size_same, told_held}
use Rattle.sig_token_calls.proofs.payloads.largest_told.Goals as goal

pub largest_on-requires-clause-numbers : goal.largest_on-requires-clause-numbers
largest_on-requires-clause-numbers c = all_numbered c.args.ledger.now.books c.accounts.result.now c.accounts.ensures.accounts c.accounts.ensures.kept

pub largest_on-requires-clause-told : goal.largest_on-requires-clause-told
largest_on-requires-clause-told c = told_held c.args.ledger.now.books c.accounts.result.now c.args.addressed.now c.accounts.ensures.accounts c.requires.told

pub returns : goal.returns
returns c =
    subst (λ (k : ℕ). IfOk c.largest_on.result (λ n. n ≡ k))
    (most_is c.store_id.result c.args.addressed.now.fact c.args.news c.in_ok-shared.shared c.accounts.result.now c.requires.news
    (c.in_ok-shared.ensures ∙ ap (λ (t : ℕ). shared_bytes c.store_id.result t c.args.news) (c.time_of-time.ensures ∙ ap time_of c.fact.ensures))
    (all_numbered c.args.ledger.now.books c.accounts.result.now c.accounts.ensures.accounts c.accounts.ensures.kept)
    ∙ size_same c.args.ledger.now.books c.accounts.result.now c.store_id.result c.args.addressed.now.fact c.store_id.ensures c.accounts.ensures.accounts)
    c.largest_on.ensures
