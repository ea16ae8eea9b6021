use Rattle.std.proofs.Common.{◌≡◌, drop}
use Rattle.sig_sessions.specs.Fingerprint.{with_plains}
use Rattle.sig_sessions.proofs.fingerprint.with_plains.Given as goal

abbrev pub invariant-loop-plain : goal.invariant-loop-plain
invariant-loop-plain l = with_plains l.grown (drop l.plain-index l.identifiers) ≡ with_plains l.fn.number l.fn.identifiers
