use Rattle.std.proofs.Common.{◌≡◌, ◌+◌, ◌++◌, drop}
use Rattle.sig_schedules.specs.Replay.{messages_text}
use Rattle.sig_world.proofs.replay_text.add_messages.Given as goal

abbrev pub invariant-loop-token : goal.invariant-loop-token
invariant-loop-token l = record {
  place : l.place ≡ l.first + l.token-index;
  so_far : l.text ++ messages_text l.number l.place (drop l.token-index l.tokens) ≡ l.fn.text ++ messages_text l.number l.first l.tokens;
}
