use Rattle.std.proofs.Common.{◌≡◌, take}
use Rattle.sig_set.proofs.prepared.prepared_public_keys.Given as goal

abbrev pub invariant-loop-key : goal.invariant-loop-key
invariant-loop-key l = l.prepared.items ≡ take l.key-index l.keys
