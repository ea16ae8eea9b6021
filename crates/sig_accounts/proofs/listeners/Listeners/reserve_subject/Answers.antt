use Rattle.std.proofs.Common.{ap, sym, subst}
use Rattle.std.specs.List.{list_any}
use Rattle.std.specs.Prelude.{nat_eq}
use Rattle.sig_accounts.specs.Listening.{AreListening, Listening}
use Rattle.sig_accounts.proofs.ListeningLemmas.{copied}
use Rattle.sig_accounts.proofs.listeners.Listeners.reserve_subject.Goals as goal

pub returns-clause-same : goal.returns-clause-same
returns-clause-same c = λ lists h.
    let old : AreListening c.self.inside.seats.items c.self.inside.next c.self.inside.lists.entries lists =
    subst (λ (i : Listening). AreListening i.seats i.next i.lists lists) (sym c.self.view_is) h in
    copied c.self.inside.seats.items c.self.inside.next c.self.inside.lists.entries c.reserve_seat.new.lists.entries lists
    (λ s n. ap (list_any (nat_eq n)) (c.reserve_seat.ensures.same s)) old
