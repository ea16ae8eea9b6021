use Rattle.std.proofs.Common.{◌≡◌, take}
use Rattle.sig_inbox.proofs.seen.Seen.copy.Given as goal

abbrev pub invariant-loop-pair : goal.invariant-loop-pair
invariant-loop-pair l = l.copy.pairs ≡ take l.pair-index l.self.pairs
