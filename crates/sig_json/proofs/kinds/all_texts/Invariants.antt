use Rattle.std.proofs.Common.{◌≡◌, drop}
use Rattle.serde_json.specs.View.{items_view}
use Rattle.sig_json.specs.Members.{are_texts}
use Rattle.sig_json.proofs.kinds.all_texts.Given as goal

abbrev pub invariant-loop-item : goal.invariant-loop-item
invariant-loop-item l = are_texts (items_view l.items) ≡ are_texts (items_view (drop l.item-index l.items))
