use Rattle.std.proofs.Common.{◌≡◌, ◌<◌, ◌≤◌, ◌∙◌, ap, sym, subst, ◌+◌, [], length, if◌then◌else◌, IsOk, arith}
use Rattle.std.specs.List.{insert}
use Rattle.std.specs.Prelude.{vec_capacity, vec_len}
use Rattle.sig_accounts.specs.Listening.{AreListening, Listening}
use Rattle.sig_accounts.proofs.ListeningLemmas.{opened}
use Rattle.sig_accounts.proofs.listeners.Listeners.open.Goals as goal

pub returns : goal.returns
returns c = λ lists h.
    let old : AreListening c.self.inside.seats.items c.self.inside.next c.self.inside.lists.entries lists =
    subst (λ (i : Listening). AreListening i.seats i.next i.lists lists) (sym c.self.view_is) h in
    let within : c.args.place ≤ length c.self.inside.seats.items = subst (λ (i : Listening). c.args.place ≤ length i.seats) (sym c.self.view_is) c.requires.within in
    let some : 0 < c.args.self.now.room = c.requires.room in
    let room : vec_len c.self.inside.seats < vec_capacity c.self.inside.seats = omega (arith, some, ap (λ (i : Listening). i.room) c.self.view_is) in
    let ok : IsOk c.insert.result = c.insert.ensures.succeeds room in
    let put : c.insert.new.self.items ≡ insert c.self.inside.seats.items c.args.place c.self.inside.next =
    c.insert.ensures.items
    ∙ ap (λ t. if t then insert c.self.inside.seats.items c.args.place c.self.inside.next else c.self.inside.seats.items) ok in
    subst (λ ks. AreListening ks (c.self.inside.next + 1) c.self.inside.lists.entries (insert lists c.args.place [])) (sym put)
    (opened c.self.inside.seats.items c.self.inside.next c.self.inside.lists.entries lists c.args.place old within)
