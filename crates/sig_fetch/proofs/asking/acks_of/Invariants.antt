use Rattle.std.proofs.Common.{◌≡◌, filter_map, take}
use Rattle.sig_fetch.specs.Asks.{ack_of}
use Rattle.sig_fetch.proofs.asking.acks_of.Given as goal

abbrev pub invariant-loop-turn : goal.invariant-loop-turn
invariant-loop-turn l = l.acks.items ≡ filter_map ack_of (take l.turn-index l.turns)
