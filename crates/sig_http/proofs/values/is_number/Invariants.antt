use Rattle.std.proofs.Common.{◌≡◌, drop}
use Rattle.sig_http.specs.Values.{is_digits}
use Rattle.sig_http.proofs.values.is_number.Given as goal

abbrev pub invariant-loop-byte : goal.invariant-loop-byte
invariant-loop-byte l = is_digits l.bytes ≡ is_digits (drop l.byte-index l.bytes)
