use Rattle.std.proofs.Common.{◌≡◌, filter_map, take}
use Rattle.sig_fetch.specs.Asks.{report_of}
use Rattle.sig_fetch.proofs.asking.reports_of.Given as goal

abbrev pub invariant-loop-turn : goal.invariant-loop-turn
invariant-loop-turn l = l.reports.items ≡ filter_map report_of (take l.turn-index l.turns)
