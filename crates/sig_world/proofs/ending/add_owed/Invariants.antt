use Rattle.std.proofs.Common.{◌≡◌, ◌++◌, drop}
use Rattle.sig_schedules.specs.Replay.{owed_text}
use Rattle.sig_world.proofs.ending.add_owed.Given as goal

abbrev pub invariant-loop-place : goal.invariant-loop-place
invariant-loop-place l =
    l.text ++ owed_text l.outbox.sum (drop l.place l.outbox.sum.parts.streams) ≡ l.fn.text ++ owed_text l.outbox.sum l.outbox.sum.parts.streams
