use Rattle.std.proofs.Common.{◌≡◌, ◌∙◌, ap, sym, subst}
use Rattle.std.specs.List.{list_any}
use Rattle.std.specs.Prelude.{nat_eq}
use Rattle.sig_accounts.specs.Listening.{AreListening, Listening}
use Rattle.sig_accounts.proofs.ListeningLemmas.{copied}
use Rattle.sig_accounts.proofs.listeners.Listeners.copy.Goals as goal

pub returns : goal.returns
returns c = λ lists h.
    let old : AreListening c.self.inside.seats.items c.self.inside.next c.self.inside.lists.entries lists =
    subst (λ (i : Listening). AreListening i.seats i.next i.lists lists) (sym c.self.view_is) h in
    subst (λ ks. AreListening ks c.self.inside.next c.in_ok-lists.lists.entries lists) (sym (c.in_ok-seats.ensures.items ∙ c.as_slice.ensures.value))
    (copied c.self.inside.seats.items c.self.inside.next c.self.inside.lists.entries c.in_ok-lists.lists.entries lists
    (λ s n. ap (list_any (nat_eq n)) (c.in_ok-lists.ensures s)) old)
