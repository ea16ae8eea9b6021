use Rattle.std.proofs.Common.{◌≡◌, sym, subst, List, ◌++◌, map, length, take, drop, arith, All}
use Rattle.sig_history.specs.Facts.{is_told}
use Rattle.sig_history.specs.Standings.{stream_in}
use Rattle.sig_history.specs.Streams.{Stream}
use Rattle.sig_accounts.specs.Owings.{Balance, owing_in, room_in, standing_of}
use Rattle.sig_accounts.specs.Owings as books
use Rattle.sig_accounts.specs.Owings.{HasRoomFor}
use Rattle.sig_accounts.specs.Telling.{IsAddressed}
use Rattle.sig_ledger.specs.Books.{sum_in}
use Rattle.sig_ledger.specs.Room.{HaveRoom, Held, IsAddressedIn}
use Rattle.sig_accounts.proofs.FoundLemmas.{book_streams}
use Rattle.sig_ledger.proofs.RoomLemmas.{on_ok, refilled, room_holds, told_in}
use Rattle.sig_ledger.proofs.ledger.Ledger.reserve_tokens.Goals as goal

pub reserve_tokens-requires : goal.reserve_tokens-requires
reserve_tokens-requires c =
    subst (λ (bs : List Balance). IsAddressed (map books.stream_in (map owing_in bs)) c.args.addressed.now) (sym c.as_mut_slice.ensures.value)
    (told_in c.self.inside.store_id c.self.inside.published.items c.self.inside.created.items c.self.inside.accounts.items c.args.addressed.now
    (subst (λ (h : Held). IsAddressedIn (sum_in h.books).parts c.args.addressed.now) (sym c.self.view_is) c.requires))

pub returns-clause-tokens : goal.returns-clause-tokens
returns-clause-tokens c =
    let now : List Balance = take c.self.inside.accounts.len (c.reserve_tokens.new.accounts ++ drop (length c.reserve_tokens.new.accounts) c.self.inside.accounts.items) in
    let same : now ≡ c.reserve_tokens.new.accounts =
    refilled c.self.inside.accounts.len c.reserve_tokens.new.accounts c.self.inside.accounts.items (omega (arith, c.reserve_tokens.auto.accounts, c.as_mut_slice.ensures.len)) in
    let rooms : List Balance → Type 0 = λ bs.
    HaveRoom (is_told c.args.addressed.now.fact) (map stream_in (map (standing_of c.self.inside.store_id c.self.inside.published.items) (map owing_in bs))) (map room_in bs) in
    on_ok (All (HasRoomFor (is_told c.args.addressed.now.fact) room_in) c.reserve_tokens.new.accounts) (rooms now)
    (λ all. subst rooms (sym same)
    (subst (λ (ss : List Stream). HaveRoom (is_told c.args.addressed.now.fact) ss (map room_in c.reserve_tokens.new.accounts))
    (sym (book_streams c.self.inside.store_id c.self.inside.published.items (map owing_in c.reserve_tokens.new.accounts)))
    (room_holds (is_told c.args.addressed.now.fact) room_in c.reserve_tokens.new.accounts all)))
    c.reserve_tokens.result c.reserve_tokens.ensures.ok
