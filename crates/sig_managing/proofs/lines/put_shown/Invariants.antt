use Rattle.std.proofs.Common.{◌≡◌, ◌++◌, take}
use Rattle.sig_managing.specs.Lines as spec
use Rattle.sig_managing.proofs.lines.put_shown.Given as goal

abbrev pub invariant-loop-byte : goal.invariant-loop-byte
invariant-loop-byte l = l.line ≡ l.fn.line ++ spec.on_line (take l.byte-index l.fn.text)
