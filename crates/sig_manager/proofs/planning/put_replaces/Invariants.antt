use Rattle.std.proofs.Common.{◌≡◌, ◌++◌, filter_map, take}
use Rattle.sig_manager.specs.Planning.{replace_for}
use Rattle.sig_manager.proofs.planning.put_replaces.Given as goal

abbrev pub invariant-loop-stream : goal.invariant-loop-stream
invariant-loop-stream l = l.steps.items ≡ l.initial.steps.items ++ filter_map (replace_for l.listed) (take l.stream-index l.declared)
