use Rattle.std.proofs.Common.{◌≡◌, ◌∙◌, ap, sym, [], Some}
use Rattle.std.specs.Map.{lookup}
use Rattle.std.specs.Option.{option_map_or}
use Rattle.std.proofs.lemmas.Bool.{eqb-true}
use Rattle.sig_subject.specs.Matching.{is_identical}
use Rattle.sig_accounts.specs.Listening.{Seating}
use Rattle.sig_accounts.proofs.ListsLemmas.{looked_up, no_items}
use Rattle.sig_accounts.proofs.lists.is_idle.Goals as goal

pub returns-in-Some : goal.returns-in-Some
returns-in-Some c = λ empty.
    let value : lookup (is_identical c.args.subject.now) c.args.lists.now.entries ≡ Some c.in-Some.seats.now =
    sym (looked_up c.args.subject.now c.args.lists.now.entries) ∙ sym c.in-Some.ensures.value in
    ap (λ o. option_map_or (λ (a : Seating). a.seats) o []) value ∙ sym c.as_slice.ensures ∙ no_items c.as_slice.result.now (eqb-true _ 0 (sym c.is_empty.ensures ∙ empty))
