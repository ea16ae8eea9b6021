use Rattle.std.proofs.Common.{◌∙◌, ap, sym, List, map}
use Rattle.sig_history.specs.Streams.{Stream, streams_of}
use Rattle.sig_accounts.specs.Owings.{Balance, owing_in}
use Rattle.sig_ledger.specs.Books.{sum_in}
use Rattle.sig_accounts.specs.Owings as books
use Rattle.sig_ledger.specs.Room.{Held}
use Rattle.sig_accounts.proofs.FoundLemmas.{book_streams}
use Rattle.sig_ledger.proofs.ledger.Ledger.streams_of.Goals as goal

pub returns : goal.returns
returns c =
    c.streams_of.ensures
    ∙ ap (λ (bs : List Balance). streams_of c.args.client.now (map books.stream_in (map owing_in bs))) c.as_slice.ensures.value
    ∙ ap (λ (ss : List Stream). streams_of c.args.client.now ss)
    (sym (book_streams c.self.inside.store_id c.self.inside.published.items (map owing_in c.self.inside.accounts.items)))
    ∙ ap (λ (h : Held). streams_of c.args.client.now (sum_in h.books).parts.streams) c.self.view_is
