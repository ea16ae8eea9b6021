use Rattle.std.proofs.Common.{◌≡◌, ◌<◌, ◌∙◌, ap, sym, subst, Some, None, is_some, arith}
use Rattle.std.specs.List.{position}
use Rattle.std.specs.Map.{keys_of, lookup}
use Rattle.std.specs.Option.{option_map_or}
use Rattle.sig_subject.specs.Matching.{is_identical}
use Rattle.sig_accounts.specs.Listening.{Seating, is_among, room_for}
use Rattle.sig_accounts.proofs.ListsLemmas.{among_added, looked_up, value_at, written}
use Rattle.sig_accounts.proofs.SubjectLemmas.{key_eq, none_from}
use Rattle.sig_accounts.proofs.lists.add_seat.Goals as goal

pub add-requires : goal.add-requires
add-requires c =
    let found : position (key_eq c.args.subject.now) (keys_of c.args.lists.now.entries) ≡ Some c.in-Some.index = sym c.get_index_of.ensures.index ∙ c.in-Some.is in
    subst (λ o. 0 < option_map_or (λ (a : Seating). a.room) o 0)
    (value_at c.args.subject.now c.args.lists.now.entries c.in-Some.index c.index_mut.result.now found c.index_mut.ensures.value) c.requires

pub returns-in-Some : goal.returns-in-Some
returns-in-Some c = λ s n.
    let found : position (key_eq c.args.subject.now) (keys_of c.args.lists.now.entries) ≡ Some c.in-Some.index = sym c.get_index_of.ensures.index ∙ c.in-Some.is in
    ap (is_among s n) (written c.args.subject.now c.args.lists.now.entries c.in-Some.index c.add.new.self found)
    ∙ among_added s c.args.subject.now n c.args.seat c.args.lists.now.entries c.index_mut.result.now c.add.new.self
    (value_at c.args.subject.now c.args.lists.now.entries c.in-Some.index c.index_mut.result.now found c.index_mut.ensures.value) (c.add.ensures n)

pub returns-in_default : goal.returns-in_default
returns-in_default c =
    let none : lookup (is_identical c.args.subject.now) c.args.lists.now.entries ≡ None =
    sym (looked_up c.args.subject.now c.args.lists.now.entries) ∙ none_from _ (sym c.get_index_of.ensures.found ∙ ap is_some c.in_default.is) in
    absurd (omega (arith, subst (λ o. 0 < option_map_or (λ (a : Seating). a.room) o 0) none c.requires))
