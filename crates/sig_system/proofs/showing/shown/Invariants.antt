use Rattle.std.proofs.Common.{◌≡◌, take, map}
use Rattle.sig_system.specs.Notes.{shown_byte}
use Rattle.sig_system.proofs.showing.shown.Given as goal

abbrev pub invariant-loop-byte : goal.invariant-loop-byte
invariant-loop-byte l = l.bytes.items ≡ map shown_byte (take l.byte-index l.byte-items)
