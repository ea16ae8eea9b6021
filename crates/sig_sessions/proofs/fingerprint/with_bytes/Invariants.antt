use Rattle.std.proofs.Common.{◌≡◌, drop}
use Rattle.sig_sessions.specs.Fingerprint.{with_bytes}
use Rattle.sig_sessions.proofs.fingerprint.with_bytes.Given as goal

abbrev pub invariant-loop-byte : goal.invariant-loop-byte
invariant-loop-byte l = with_bytes l.grown (drop l.byte-index l.bytes) ≡ with_bytes l.fn.number l.fn.bytes
