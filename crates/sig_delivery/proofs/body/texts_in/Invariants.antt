use Rattle.std.proofs.Common.{◌≡◌, drop}
use Rattle.serde_json.specs.View.{items_view}
use Rattle.sig_delivery.specs.Bodies.{texts_of}
use Rattle.sig_delivery.proofs.Collected.{behind}
use Rattle.sig_delivery.proofs.body.texts_in.Given as goal

abbrev pub invariant-loop-item : goal.invariant-loop-item
invariant-loop-item l =
    texts_of (items_view l.items) ≡ behind l.texts.items (texts_of (items_view (drop l.item-index l.items)))
