use Rattle.std.proofs.Common.{◌≤◌, length}
use Rattle.sig_system.proofs.file_disk.fill.Given as goal

abbrev pub invariant-tries : goal.invariant-tries
invariant-tries l = l.count ≤ length l.buf
