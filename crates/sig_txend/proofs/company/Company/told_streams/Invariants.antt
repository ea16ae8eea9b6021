use Rattle.std.proofs.Common.{◌≡◌, map, take}
use Rattle.sig_txend.specs.Counting.{standing_in}
use Rattle.sig_txend.proofs.company.Company.told_streams.Given as goal

abbrev pub invariant-loop-standing : goal.invariant-loop-standing
invariant-loop-standing l = map standing_in l.streams.items ≡ take l.standing-index l.standings
