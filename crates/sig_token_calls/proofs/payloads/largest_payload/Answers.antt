use Rattle.std.proofs.Common.{◌∙◌, ap, sym}
use Rattle.sig_history.specs.Facts.{said_by}
use Rattle.sig_ledger.specs.Books.{sum_in}
use Rattle.sig_token_calls.proofs.TokenLemmas.{silent_size}
use Rattle.sig_token_calls.proofs.payloads.largest_payload.Goals as goal

pub returns-in-None : goal.returns-in-None
returns-in-None c =
    silent_size c.args.ledger.now.books.store_id c.args.addressed.now.fact (sum_in c.args.ledger.now.books).parts.streams (ap said_by (sym c.fact.ensures) ∙ sym c.in_ok-news_of.ensures ∙ c.in-None.is)
