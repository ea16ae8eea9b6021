use Rattle.std.proofs.Common.{◌≡◌, ◌∷◌, [], drop, take}
use Rattle.std.specs.Prelude.{map}
use Rattle.sig_settings.specs.Bearers.{placed_from, repeated}
use Rattle.sig_settings.proofs.bearer.bearers_differ.Given as goal

abbrev pub invariant-loop-i : goal.invariant-loop-i
invariant-loop-i g l =
    repeated (l.first ∷ []) (placed_from g.K.TextOf.text l.name 0 l.items)
    ≡ repeated (l.first ∷ map g.K.TextOf.text (take l.i l.items)) (placed_from g.K.TextOf.text l.name l.i (drop l.i l.items))
