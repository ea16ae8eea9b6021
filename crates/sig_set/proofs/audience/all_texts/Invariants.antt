use Rattle.std.proofs.Common.{◌≡◌, drop}
use Rattle.serde_json.specs.View.{items_view}
use Rattle.sig_set.specs.Claims.{texts_of}
use Rattle.sig_set.proofs.Collected.{behind}
use Rattle.sig_set.proofs.audience.all_texts.Given as goal

abbrev pub invariant-loop-item : goal.invariant-loop-item
invariant-loop-item l =
    texts_of (items_view l.items) ≡ behind l.texts.items (texts_of (items_view (drop l.item-index l.items)))
