use Rattle.std.proofs.Common.{◌≡◌, take}
use Rattle.sig_token_calls.specs.Sizes.{escaped_bytes}
use Rattle.sig_token_calls.proofs.sizes.escaped_size.Given as goal

abbrev pub invariant-loop-byte : goal.invariant-loop-byte
invariant-loop-byte l = l.size ≡ escaped_bytes (take l.byte-index l.text)
