use Rattle.std.proofs.Common.{◌≡◌, ◌++◌, drop}
use Rattle.sig_schedules.specs.Replay.{issued_text}
use Rattle.sig_world.proofs.replay_text.add_issued.Given as goal

abbrev pub invariant-loop-token : goal.invariant-loop-token
invariant-loop-token l = l.text ++ issued_text l.number (drop l.token-index l.tokens) ≡ l.fn.text ++ issued_text l.number l.tokens
