use Rattle.std.proofs.Common.{◌≡◌, drop}
use Rattle.serde_json.specs.View.{view, items_view, members_view}
use Rattle.serde_json.specs.Written.{has_float, items_have_float, members_have_float}
use Rattle.sig_json.proofs.canonical.+has_fraction.Given as goal

abbrev pub decreases-has_fraction : goal.decreases-has_fraction
decreases-has_fraction l = goal.size-has_fraction l

abbrev pub invariant-loop-item : goal.invariant-loop-item
invariant-loop-item l = has_float (view l.value) ≡ items_have_float (items_view (drop l.item-index l.item-items))

abbrev pub invariant-loop-member : goal.invariant-loop-member
invariant-loop-member l = has_float (view l.value) ≡ members_have_float (members_view l.member-iterator)
