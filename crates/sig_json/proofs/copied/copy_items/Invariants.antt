use Rattle.std.proofs.Common.{◌≡◌, take}
use Rattle.sig_json.proofs.copied.copy_items.Given as goal

abbrev pub invariant-loop-item : goal.invariant-loop-item
invariant-loop-item g l = l.out.items ≡ take l.item-index l.list
