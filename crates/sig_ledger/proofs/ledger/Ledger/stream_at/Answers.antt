use Rattle.std.proofs.Common.{◌∙◌, ap, sym, List, map}
use Rattle.std.specs.List.{slice_get}
use Rattle.sig_history.specs.Streams.{Stream}
use Rattle.sig_accounts.specs.Owings.{Balance, Owing, owing_in}
use Rattle.sig_ledger.specs.Books.{sum_in}
use Rattle.sig_accounts.specs.Owings as books
use Rattle.sig_ledger.specs.Room.{Held}
use Rattle.sig_accounts.proofs.FoundLemmas.{book_streams}
use Rattle.sig_ledger.proofs.ledger.Ledger.stream_at.Goals as goal

pub returns : goal.returns
returns c =
    c.name_at.ensures
    ∙ ap (λ (bs : List Balance). slice_get (map (λ (s : Stream). s.conf.stream) (map books.stream_in (map owing_in bs))) c.args.place) c.as_slice.ensures.value
    ∙ ap (λ (ss : List Stream). slice_get (map (λ (s : Stream). s.conf.stream) ss) c.args.place)
    (sym (book_streams c.self.inside.store_id c.self.inside.published.items (map owing_in c.self.inside.accounts.items)))
    ∙ ap (λ (h : Held). slice_get (map (λ (s : Stream). s.conf.stream) (sum_in h.books).parts.streams) c.args.place) c.self.view_is
