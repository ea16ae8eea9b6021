use Rattle.std.proofs.Common.{◌∙◌, ap, sym, List, map, length, Some}
use Rattle.std.specs.Prelude.{option_map}
use Rattle.sig_accounts.specs.declared.debt.Debt.{Debt}
use Rattle.sig_accounts.specs.Owings.{Balance, Owing, owing_in, owing_named}
use Rattle.sig_ledger.specs.Room.{Held}
use Rattle.sig_ledger.proofs.FoundLemmas.{counted_of}
use Rattle.sig_ledger.proofs.ledger.Ledger.owed.Goals as goal

pub returns-in-None : goal.returns-in-None
returns-in-None c =
    ap (option_map (λ (o : Owing). length o.owed)) c.in-None.ensures
    ∙ ap (λ (bs : List Balance). option_map (λ (o : Owing). length o.owed) (owing_named c.args.stream.now (map owing_in bs))) c.as_slice.ensures.value
    ∙ ap (λ (h : Held). option_map (λ (o : Owing). length o.owed) (owing_named c.args.stream.now h.books.owings)) c.self.view_is
    ∙ sym (counted_of c.args.self.now.books c.args.stream.now)

pub returns-in-Some : goal.returns-in-Some
returns-in-Some c =
    ap (λ (ds : List Debt). Some (length ds)) c.owed.ensures
    ∙ ap (option_map (λ (o : Owing). length o.owed)) c.in-Some.ensures
    ∙ ap (λ (bs : List Balance). option_map (λ (o : Owing). length o.owed) (owing_named c.args.stream.now (map owing_in bs))) c.as_slice.ensures.value
    ∙ ap (λ (h : Held). option_map (λ (o : Owing). length o.owed) (owing_named c.args.stream.now h.books.owings)) c.self.view_is
    ∙ sym (counted_of c.args.self.now.books c.args.stream.now)
