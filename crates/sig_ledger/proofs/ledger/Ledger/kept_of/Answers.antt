use Rattle.std.proofs.Common.{◌≡◌, ◌∙◌, ap, sym, subst, List, map, flat_map, All}
use Rattle.sig_history.specs.Streams.{Stream, issued_of}
use Rattle.sig_history.specs.Facts.{made_by, token_for}
use Rattle.sig_accounts.specs.Owings.{Balance, issued_by, owing_in, stream_in}
use Rattle.sig_ledger.specs.Books.{sum_in}
use Rattle.sig_accounts.specs.Owings.{IsBelowTop}
use Rattle.sig_accounts.specs.Telling.{IsAddressed}
use Rattle.sig_ledger.specs.Room.{Held, IsAddressedIn}
use Rattle.sig_accounts.proofs.FoundLemmas.{book_streams}
use Rattle.sig_accounts.proofs.IssuedLemmas.{issued_all}
use Rattle.sig_ledger.proofs.RoomLemmas.{ok_is, told_in, tops_below}
use Rattle.sig_ledger.proofs.ledger.Ledger.kept_of.Goals as goal

pub issued_on-requires-clause-tops : goal.issued_on-requires-clause-tops
issued_on-requires-clause-tops c =
    subst (All IsBelowTop) (sym c.as_slice.ensures.value)
    (tops_below c.self.inside.store_id c.self.inside.published.items c.self.inside.created.items c.self.inside.accounts.items c.self.invariant.0.whole)

pub issued_on-requires-clause-told : goal.issued_on-requires-clause-told
issued_on-requires-clause-told c =
    subst (λ (bs : List Balance). IsAddressed (map stream_in (map owing_in bs)) c.args.addressed.now) (sym c.as_slice.ensures.value)
    (told_in c.self.inside.store_id c.self.inside.published.items c.self.inside.created.items c.self.inside.accounts.items c.args.addressed.now
    (subst (λ (h : Held). IsAddressedIn (sum_in h.books).parts c.args.addressed.now) (sym c.self.view_is) c.requires))

pub returns : goal.returns
returns c =
    let same : issued_by c.args.addressed.now.fact (map stream_in (map owing_in c.as_slice.result.now))
    ≡ map issued_of (made_by (sum_in c.args.self.now.books).parts c.args.addressed.now.fact) =
    ap (λ (bs : List Balance). issued_by c.args.addressed.now.fact (map stream_in (map owing_in bs))) c.as_slice.ensures.value
    ∙ issued_all c.self.inside.store_id c.args.addressed.now.fact (map stream_in (map owing_in c.self.inside.accounts.items))
    ∙ ap (λ (ss : List Stream). map issued_of (flat_map (token_for c.self.inside.store_id c.args.addressed.now.fact) ss))
    (sym (book_streams c.self.inside.store_id c.self.inside.published.items (map owing_in c.self.inside.accounts.items)))
    ∙ ap (λ (h : Held). map issued_of (made_by (sum_in h.books).parts c.args.addressed.now.fact)) c.self.view_is in
    ok_is _ _ same c.issued_on.result c.issued_on.ensures
