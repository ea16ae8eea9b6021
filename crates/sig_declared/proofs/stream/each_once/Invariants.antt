use Rattle.std.proofs.Common.{◌≡◌, drop}
use Rattle.sig_settings.specs.Lists as spec
use Rattle.sig_declared.specs.Declarations.{description_of}
use Rattle.sig_declared.proofs.stream.each_once.Given as goal

abbrev pub invariant-loop-i : goal.invariant-loop-i
invariant-loop-i l = spec.each_once description_of l.streams ≡ spec.each_once description_of (drop l.i l.streams)
