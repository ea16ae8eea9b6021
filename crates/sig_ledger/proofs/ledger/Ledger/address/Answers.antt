use Rattle.std.proofs.Common.{◌≡◌, ◌∙◌, ap, sym, subst, List, map, IfOk}
use Rattle.sig_history.specs.Streams.{Stream}
use Rattle.sig_accounts.proofs.FoundLemmas.{book_streams}
use Rattle.sig_accounts.specs.Owings.{Balance, owing_in, stream_in}
use Rattle.sig_accounts.specs.Telling.{IsAddressed}
use Rattle.sig_ledger.specs.Books.{sum_in}
use Rattle.sig_ledger.specs.Room.{Held}
use Rattle.sig_accounts.specs.Listening.{IsListening}
use Rattle.sig_accounts.specs.Owings.{list_of}
use Rattle.sig_ledger.proofs.ledger.Ledger.address.Goals as goal

pub addressed_to-requires : goal.addressed_to-requires
addressed_to-requires c =
    subst (λ (bs : List Balance). IsListening c.self.inside.listeners (map list_of (map owing_in bs))) (sym c.as_slice.ensures.value) c.self.invariant.2

pub returns-clause-told : goal.returns-clause-told
returns-clause-told c =
    let same : map stream_in (map owing_in c.as_slice.result.now) ≡ (sum_in c.args.self.now.books).parts.streams =
    ap (λ (bs : List Balance). map stream_in (map owing_in bs)) c.as_slice.ensures.value
    ∙ sym (book_streams c.self.inside.store_id c.self.inside.published.items (map owing_in c.self.inside.accounts.items))
    ∙ ap (λ (h : Held). (sum_in h.books).parts.streams) c.self.view_is in
    subst (λ (ss : List Stream). IfOk c.addressed_to.result (IsAddressed ss)) same c.addressed_to.ensures.told
