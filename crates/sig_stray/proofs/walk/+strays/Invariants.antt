use Rattle.std.proofs.Common.{◌≡◌, ◌+◌, ◌*◌, ◌++◌, [], drop, take, length}
use Rattle.json.specs.Strict.{keys}
use Rattle.json.specs.Tree.{json_tokens, items_tokens, members_tokens}
use Rattle.json.specs.Value.{value_view, items_view, members_view}
use Rattle.sig_stray.specs.Strays as spec
use Rattle.sig_stray.proofs.walk.+strays.Given as goal

abbrev pub decreases-held_strays : goal.decreases-held_strays
decreases-held_strays l = 2 * length (json_tokens (value_view l.value.now))

abbrev pub decreases-known_strays : goal.decreases-known_strays
decreases-known_strays l = 2 * length (json_tokens (value_view l.value.now)) + 1

abbrev pub decreases-item_strays : goal.decreases-item_strays
decreases-item_strays l = 2 * length (items_tokens (items_view l.items.now))

abbrev pub decreases-member_strays : goal.decreases-member_strays
decreases-member_strays l = 2 * length (members_tokens (members_view l.members.now))

abbrev pub invariant-item_strays-loop-i : goal.invariant-item_strays-loop-i
invariant-item_strays-loop-i l = spec.item_strays l.kind 0 (items_view l.items) ≡ l.all.items ++ spec.item_strays l.kind l.i (items_view (drop l.i l.items))

abbrev pub invariant-member_strays-loop-i : goal.invariant-member_strays-loop-i
invariant-member_strays-loop-i l =
    spec.member_strays l.kind [] (members_view l.members)
    ≡ l.all.items ++ spec.member_strays l.kind (keys (members_view (take l.i l.members))) (members_view (drop l.i l.members))
