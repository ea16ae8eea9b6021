use Rattle.std.proofs.Common.{◌≡◌, ◌<◌, ap, sym, subst, ℕ, List, Some, length, arith}
use Rattle.std.specs.List.{remove, slice_get}
use Rattle.std.proofs.lemmas.Bool.{ltb-true}
use Rattle.sig_accounts.specs.Listening.{AreListening, Listening}
use Rattle.sig_accounts.proofs.ListeningLemmas.{closed, past}
use Rattle.sig_accounts.proofs.NameLemmas.{got}
use Rattle.sig_accounts.proofs.listeners.Listeners.close.Goals as goal

pub remove-requires : goal.remove-requires
remove-requires c =
    let below : c.args.place < length c.deref.result.now = ltb-true c.args.place (length c.deref.result.now) (sym c.in-Some.ensures.lookup.0) in
    omega (arith, below, ap length c.deref.ensures.value, c.self.inside.seats.ok)

pub returns-in-Some : goal.returns-in-Some
returns-in-Some c = λ lists at h.
    let ks : List ℕ = c.self.inside.seats.items in
    let old : AreListening ks c.self.inside.next c.self.inside.lists.entries lists =
    subst (λ (i : Listening). AreListening i.seats i.next i.lists lists) (sym c.self.view_is) h in
    let here : slice_get c.deref.result.now c.args.place ≡ Some c.in-Some.seat.now =
    got c.deref.result.now c.args.place c.in-Some.seat.now (ltb-true c.args.place (length c.deref.result.now) (sym c.in-Some.ensures.lookup.0)) c.in-Some.ensures.lookup.1 in
    let seat : slice_get ks c.args.place ≡ Some c.in-Some.seat.now =
    subst (λ (l : List ℕ). slice_get l c.args.place ≡ Some c.in-Some.seat.now) c.deref.ensures.value here in
    subst (λ l. AreListening l c.self.inside.next c.leave.new.lists.entries (remove lists c.args.place)) (sym c.remove.ensures.items)
    (closed ks c.self.inside.next c.self.inside.lists.entries lists c.args.place old c.leave.new.lists.entries c.in-Some.seat.now _ seat at c.leave.ensures)

pub returns-in_default : goal.returns-in_default
returns-in_default c = λ lists at h.
    let old : AreListening c.self.inside.seats.items c.self.inside.next c.self.inside.lists.entries lists =
    subst (λ (i : Listening). AreListening i.seats i.next i.lists lists) (sym c.self.view_is) h in
    past c.self.inside.seats.items c.self.inside.next c.self.inside.lists.entries lists c.args.place old c.deref.result.now c.deref.ensures.value _ at
    (sym c.in_default.ensures.lookup.0)
