use Rattle.std.proofs.Common.{◌≡◌, drop}
use Rattle.serde_json.specs.View.{items_view}
use Rattle.sig_stream.specs.Wants.{texts_of}
use Rattle.sig_stream.proofs.Collected.{behind}
use Rattle.sig_stream.proofs.want.all_texts.Given as goal

abbrev pub invariant-loop-item : goal.invariant-loop-item
invariant-loop-item l =
    texts_of (items_view l.items) ≡ behind l.texts.items (texts_of (items_view (drop l.item-index l.items)))
