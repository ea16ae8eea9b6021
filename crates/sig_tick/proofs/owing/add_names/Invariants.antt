use Rattle.std.proofs.Common.{◌≡◌, ◌++◌, take}
use Rattle.sig_tick.proofs.owing.add_names.Given as goal

abbrev pub invariant-loop-stream : goal.invariant-loop-stream
invariant-loop-stream l = l.names.items ≡ l.fn.names.items ++ take l.stream-index l.streams
