use Rattle.std.proofs.Common.{◌≡◌, ◌<◌, ◌∙◌, ap, sym, subst, ℕ, List, Some, None, false, length, arith}
use Rattle.std.specs.List.{slice_get}
use Rattle.std.specs.Option.{option_map_or}
use Rattle.std.proofs.lemmas.Bool.{ltb-false, ltb-true}
use Rattle.std.proofs.lemmas.Option.{slice_get_within}
use Rattle.sig_accounts.specs.Listening.{AreListening, Listening}
use Rattle.sig_accounts.proofs.ListeningLemmas.{left, past}
use Rattle.sig_accounts.proofs.NameLemmas.{got}
use Rattle.sig_accounts.proofs.listeners.Listeners.leave.Goals as goal

pub returns-in-Some : goal.returns-in-Some
returns-in-Some c = λ lists list at h.
    let old : AreListening c.self.inside.seats.items c.self.inside.next c.self.inside.lists.entries lists =
    subst (λ (i : Listening). AreListening i.seats i.next i.lists lists) (sym c.self.view_is) h in
    let here : slice_get c.deref.result.now c.args.place ≡ Some c.in-Some.seat.now =
    got c.deref.result.now c.args.place c.in-Some.seat.now (ltb-true c.args.place (length c.deref.result.now) (sym c.in-Some.ensures.lookup.0)) c.in-Some.ensures.lookup.1 in
    let seat : slice_get c.self.inside.seats.items c.args.place ≡ Some c.in-Some.seat.now =
    subst (λ (ks : List ℕ). slice_get ks c.args.place ≡ Some c.in-Some.seat.now) c.deref.ensures.value here in
    left c.self.inside.seats.items c.self.inside.next c.self.inside.lists.entries lists c.args.place old
    c.remove_seat.new.lists.entries c.in-Some.seat.now list seat at c.args.subject.now c.remove_seat.ensures

pub returns-in_default : goal.returns-in_default
returns-in_default c = λ lists list at h.
    let old : AreListening c.self.inside.seats.items c.self.inside.next c.self.inside.lists.entries lists =
    subst (λ (i : Listening). AreListening i.seats i.next i.lists lists) (sym c.self.view_is) h in
    past c.self.inside.seats.items c.self.inside.next c.self.inside.lists.entries lists c.args.place old c.deref.result.now c.deref.ensures.value list at
    (sym c.in_default.ensures.lookup.0)
