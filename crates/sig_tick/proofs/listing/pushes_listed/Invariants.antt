use Rattle.std.proofs.Common.{◌≡◌, take}
use Rattle.sig_tick.specs.Listing.{pushes_listed}
use Rattle.sig_tick.proofs.listing.pushes_listed.Given as goal

abbrev pub invariant-loop-turn : goal.invariant-loop-turn
invariant-loop-turn l = l.names.items ≡ pushes_listed (take l.turn-index l.turns)
