use Rattle.std.proofs.Common.{◌≡◌, ◌+◌, ◌*◌, ◌<◌, ◌++◌, [], IfOk, length, sym, ap, ap₂, ◌∙◌, subst, arith, rules}
use Rattle.json.specs.Json.{object}
use Rattle.json.specs.Strict.{keys}
use Rattle.json.specs.Tree.{json_tokens, items_tokens, members_tokens}
use Rattle.json.specs.Value.{items_view, members_view, value_view}
use Rattle.json.proofs.Trees.{item_smaller, member_smaller, view-Object}
use Rattle.sig_stray.specs.Strays as spec
use Rattle.sig_stray.proofs.WalkLemmas.{member_more}
use Rattle.sig_stray.proofs.walk.+strays.Goals as goal

pub held_strays-returns-in-Object-Object : goal.held_strays-returns-in-Object-Object
held_strays-returns-in-Object-Object t c =
    let o = c.in-Object-Object in
    let seen : value_view c.args.value.now ≡ object (members_view o.members.items) = ap value_view o.is-1 ∙ view-Object o.members in
    let same = ap₂ spec.held_strays o.is-0 seen ∙ ap (λ xs. spec.member_strays o.kind [] (members_view xs)) (sym c.as_slice.ensures.value) in
    subst (λ all. IfOk c.member_strays.result (λ strays. strays.items ≡ all)) (sym same) c.member_strays.ensures

pub item_strays-held_strays-requires : goal.item_strays-held_strays-requires
item_strays-held_strays-requires t c =
    let xs = c.args.items.now in
    let x = c.index-items-i.result in
    let smaller : length (json_tokens (value_view x)) < length (items_tokens (items_view xs)) =
    subst (λ y. length (json_tokens (value_view y)) < length (items_tokens (items_view xs))) (sym c.index-items-i.is) (item_smaller xs c.loop-i.i x (omega (arith, c.loop-i-test.true))) in
    let falls : 2 * length (json_tokens (value_view x)) < 2 * length (items_tokens (items_view xs)) = omega (arith, smaller) in
    search rules

pub member_strays-known_strays-requires : goal.member_strays-known_strays-requires
member_strays-known_strays-requires t c =
    let xs = c.args.members.now in
    let x = c.index-members-i.result in
    let smaller : length (json_tokens (value_view x.1)) < length (members_tokens (members_view xs)) =
    subst (λ y. length (json_tokens (value_view y.1)) < length (members_tokens (members_view xs))) (sym c.index-members-i.is) (member_smaller xs c.loop-i.i x (omega (arith, c.loop-i-test.true))) in
    let falls : 2 * length (json_tokens (value_view x.1)) + 1 < 2 * length (members_tokens (members_view xs)) = omega (arith, smaller) in
    search rules

pub member_strays-loop-i-preserved : goal.member_strays-loop-i-preserved
member_strays-loop-i-preserved t c =
    let more = member_more c.args.kind c.loop-i.all.items c.args.members.now c.loop-i.i c.index-members-i.result (omega (arith, c.loop-i-test.true)) c.index-members-i.is in
    search rules
