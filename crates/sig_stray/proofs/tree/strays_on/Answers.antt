use Rattle.std.proofs.Common.{◌≡◌, [], ◌∙◌, ap, sym, subst, rules, IfOk}
use Rattle.sig_stray.specs.Strays.{where_tree}
use Rattle.sig_stray.proofs.TreeLemmas.{tree_of-utf8, tree_of-none}
use Rattle.sig_stray.proofs.tree.strays_on.Goals as goal

pub returns-in-Ok : goal.returns-in-Ok
returns-in-Ok c =
    let tree = tree_of-utf8 c.args.bytes.now c.in-Ok.ensures.ok.0 ∙ c.in-Ok.ensures.ok.1 in
    subst (λ o. IfOk c.held_strays.result (λ strays. strays.items ≡ where_tree c.args.kind o)) (sym tree) c.held_strays.ensures

pub returns-in-Err-Invalid : goal.returns-in-Err-Invalid
returns-in-Err-Invalid c =
    let empty : c.new.result.items ≡ [] = search rules in
    empty ∙ sym (ap (where_tree c.args.kind) (tree_of-none c.args.bytes.now (c.from_slice.ensures.invalid (search rules))))
