use Rattle.std.proofs.Common.{◌≡◌, drop}
use Rattle.sig_outside.specs.DiskCalls.{resting}
use Rattle.sig_outside.proofs.memory_disk.rest_with.Given as goal

abbrev pub invariant-loop-call : goal.invariant-loop-call
invariant-loop-call l =
    resting l.fill l.seen.items l.image.items (drop l.call-index l.calls) ≡ resting l.fill l.first l.first l.calls
