use Rattle.std.proofs.Common.{◌≡◌, ◌++◌, take, drop}
use Rattle.sig_jws.specs.Hmac.{mixed}
use Rattle.sig_jws.proofs.mac.mixed_with.Given as goal

abbrev pub invariant-loop-x : goal.invariant-loop-x
invariant-loop-x l = l.x-items ≡ mixed l.byte (take l.x-index l.block) ++ drop l.x-index l.block
