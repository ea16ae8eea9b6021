use Rattle.std.proofs.Common.{◌≡◌, drop}
use Rattle.sig_settings.specs.Lists as spec
use Rattle.sig_declared.specs.Declarations.{description_of}
use Rattle.sig_declared.proofs.stream.is_among.Given as goal

abbrev pub invariant-loop-stream : goal.invariant-loop-stream
invariant-loop-stream l = spec.is_among description_of l.description l.streams ≡ spec.is_among description_of l.description (drop l.stream-index l.streams)
