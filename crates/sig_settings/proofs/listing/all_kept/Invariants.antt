use Rattle.std.proofs.Common.{◌≡◌, drop}
use Rattle.serde_json.specs.View.{items_view}
use Rattle.sig_settings.specs.Lists.{items_kept}
use Rattle.sig_settings.proofs.Collected.{behind}
use Rattle.sig_settings.proofs.listing.all_kept.Given as goal

abbrev pub invariant-loop-i : goal.invariant-loop-i
invariant-loop-i g l =
    items_kept g.K.SettingKind.said 0 (items_view l.items)
    ≡ behind l.all.items (items_kept g.K.SettingKind.said l.i (items_view (drop l.i l.items)))
