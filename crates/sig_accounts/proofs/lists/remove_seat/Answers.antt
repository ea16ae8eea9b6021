use Rattle.std.proofs.Common.{◌≡◌, ◌∙◌, ap, sym, Some, None, is_some, not, ◌&&◌, refl, rules}
use Rattle.std.specs.List.{list_any, position}
use Rattle.std.specs.Map.{keys_of, lookup}
use Rattle.std.specs.Prelude.{nat_eq}
use Rattle.std.proofs.lemmas.Bool.{eqb-true}
use Rattle.sig_subject.specs.Matching.{is_identical}
use Rattle.sig_accounts.specs.Listening.{is_among}
use Rattle.sig_accounts.proofs.ListsLemmas.{among_removed, none_removed, value_at, written}
use Rattle.sig_accounts.proofs.SubjectLemmas.{key_eq, none_from}
use Rattle.sig_accounts.proofs.lists.remove_seat.Goals as goal

pub returns-in-Some : goal.returns-in-Some
returns-in-Some c = λ s n.
    let found : position (key_eq c.args.subject.now) (keys_of c.args.lists.now.entries) ≡ Some c.in-Some.index = sym c.get_index_of.ensures.index ∙ c.in-Some.is in
    ap (list_any (nat_eq n)) (c.let_go.ensures s)
    ∙ ap (is_among s n) (written c.args.subject.now c.args.lists.now.entries c.in-Some.index c.remove.new.self found)
    ∙ among_removed s c.args.subject.now n c.args.seat c.args.lists.now.entries c.index_mut.result.now c.remove.new.self
    (value_at c.args.subject.now c.args.lists.now.entries c.in-Some.index c.index_mut.result.now found c.index_mut.ensures.value)
    (λ k. eqb-true n k) c.remove.ensures

pub returns-in_default : goal.returns-in_default
returns-in_default c = λ s n.
    none_removed s c.args.subject.now n c.args.seat c.args.lists.now.entries
    (none_from _ (sym c.get_index_of.ensures.found ∙ ap is_some c.in_default.is))
