use Rattle.std.proofs.Common.{◌≡◌, drop}
use Rattle.serde_json.specs.View.{items_view}
use Rattle.sig_manager.specs.Listing.{listed_of}
use Rattle.sig_manager.proofs.Behind.{behind}
use Rattle.sig_manager.proofs.listing.listed_of.Given as goal

abbrev pub invariant-loop-item : goal.invariant-loop-item
invariant-loop-item l =
    listed_of (items_view l.items) ≡ behind l.listed.items (listed_of (items_view (drop l.item-index l.items)))
