use Rattle.std.proofs.Common.{◌≡◌, ◌∙◌, ap, sym, subst, Bool, false, IfOk, List, None, Some, length, map, replicate}
use Rattle.std.specs.List.{list_any}
use Rattle.std.specs.Map.{lookup}
use Rattle.std.specs.Prelude.{nat_eq}
use Rattle.sig_subject.specs.Matching.{is_identical}
use Rattle.sig_accounts.specs.Listening.{AreBelow, Listening, is_among}
use Rattle.sig_accounts.proofs.ListsLemmas.{looked_up}
use Rattle.sig_accounts.proofs.ListeningLemmas.{marks_by, no_marks}
use Rattle.sig_accounts.proofs.listeners.Listeners.heard_at.Goals as goal

pub seated-requires : goal.seated-requires
seated-requires c =
    subst (AreBelow c.self.inside.next) (sym c.as_slice.ensures.value)
    (subst (λ (i : Listening). AreBelow i.next i.seats) (sym c.self.view_is) c.requires)

pub returns-in-None : goal.returns-in-None
returns-in-None c =
    let none : lookup (is_identical c.args.subject.now) c.self.inside.lists.entries ≡ None =
    sym (looked_up c.args.subject.now c.self.inside.lists.entries) ∙ sym c.in-None.ensures.value in
    let marks : replicate c.len.result false ≡ map (λ seat. is_among c.args.subject.now seat c.args.self.now.lists) c.args.self.now.seats =
    ap (λ n. replicate n false) (c.len.ensures ∙ c.self.inside.seats.ok.0)
    ∙ no_marks c.args.subject.now c.self.inside.lists.entries c.self.inside.seats.items none
    ∙ ap (λ (i : Listening). map (λ seat. is_among c.args.subject.now seat i.lists) i.seats) c.self.view_is in
    subst (λ (l : List Bool). IfOk c.unmarked.result (λ told. told ≡ l)) marks c.unmarked.ensures

pub returns-in-Some : goal.returns-in-Some
returns-in-Some c =
    let some : lookup (is_identical c.args.subject.now) c.self.inside.lists.entries ≡ Some c.in-Some.among.now =
    sym (looked_up c.args.subject.now c.self.inside.lists.entries) ∙ sym c.in-Some.ensures.value in
    let marks : map (λ seat. list_any (nat_eq seat) c.as_slice-in-Some.result.now) c.as_slice.result.now
    ≡ map (λ seat. is_among c.args.subject.now seat c.args.self.now.lists) c.args.self.now.seats =
    ap (λ l. map (λ seat. list_any (nat_eq seat) l) c.as_slice.result.now) c.as_slice-in-Some.ensures
    ∙ ap (map (λ seat. list_any (nat_eq seat) c.in-Some.among.now.seats)) c.as_slice.ensures.value
    ∙ marks_by c.args.subject.now c.self.inside.lists.entries c.self.inside.seats.items c.in-Some.among.now some
    ∙ ap (λ (i : Listening). map (λ seat. is_among c.args.subject.now seat i.lists) i.seats) c.self.view_is in
    subst (λ (l : List Bool). IfOk c.seated.result (λ told. told ≡ l)) marks c.seated.ensures
