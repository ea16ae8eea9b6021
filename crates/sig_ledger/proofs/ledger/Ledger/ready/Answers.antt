use Rattle.std.proofs.Common.{sym, subst}
use Rattle.sig_ledger.specs.Books.{Books, sum_in}
use Rattle.sig_ledger.specs.Room.{HasRoom, IsAddressedIn, Ready}
use Rattle.sig_ledger.proofs.RoomLemmas.{ready_with}
use Rattle.sig_ledger.proofs.ledger.Ledger.ready.Goals as goal

pub returns-in-Ok-clause-room : goal.returns-in-Ok-clause-room
returns-in-Ok-clause-room c =
    subst (λ (r : Ready). HasRoom (sum_in c.room_for.new.self.books) c.room_for.new.self.room r) (sym c.of.ensures)
    (ready_with (sum_in c.room_for.new.self.books) c.room_for.new.self.room c.args.addressed c.in-Ok.spare
    (subst (λ (b : Books). IsAddressedIn (sum_in b).parts c.args.addressed) (sym c.room_for.ensures.keeps) c.requires)
    c.in-Ok.ensures.spare c.in-Ok.ensures.tokens c.in-Ok.ensures.space c.in-Ok.ensures.refused)
