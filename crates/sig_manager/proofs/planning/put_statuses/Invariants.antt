use Rattle.std.proofs.Common.{◌≡◌, ◌++◌, filter_map, take}
use Rattle.sig_manager.specs.Planning.{status_for}
use Rattle.sig_manager.proofs.planning.put_statuses.Given as goal

abbrev pub invariant-loop-stream : goal.invariant-loop-stream
invariant-loop-stream l = l.steps.items ≡ l.initial.steps.items ++ filter_map (status_for l.listed) (take l.stream-index l.declared)
