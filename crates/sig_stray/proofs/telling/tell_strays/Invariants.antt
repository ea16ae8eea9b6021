use Rattle.std.proofs.Common.{◌≡◌}
use Rattle.sig_stray.proofs.telling.tell_strays.Given as goal

abbrev pub invariant-loop-line : goal.invariant-loop-line
invariant-loop-line g l =
    (g.X.Outside.settings_of l.outside ≡ g.X.Outside.settings_of l.fn.outside)
    × (g.X.Outside.settings_faults l.outside ≡ g.X.Outside.settings_faults l.fn.outside)
    × (g.X.Outside.held l.outside ≡ g.X.Outside.held l.fn.outside)
    × (g.X.Outside.lent l.outside ≡ g.X.Outside.lent l.fn.outside)
    × (g.X.Outside.store_faults l.outside ≡ g.X.Outside.store_faults l.fn.outside)
    × (g.X.Outside.there l.outside ≡ g.X.Outside.there l.fn.outside)
    × (g.X.Outside.doors l.outside ≡ g.X.Outside.doors l.fn.outside)
    × (g.X.Outside.doors_out l.outside ≡ g.X.Outside.doors_out l.fn.outside)
    × (g.X.Outside.doors_back l.outside ≡ g.X.Outside.doors_back l.fn.outside)
    × (g.X.Outside.sides l.outside ≡ g.X.Outside.sides l.fn.outside)
    × (g.X.Outside.sides_out l.outside ≡ g.X.Outside.sides_out l.fn.outside)
    × (g.X.Outside.sides_back l.outside ≡ g.X.Outside.sides_back l.fn.outside)
    × (g.X.Outside.network_faults l.outside ≡ g.X.Outside.network_faults l.fn.outside)
