use Rattle.std.proofs.Common.{sym}
use Rattle.sig_script.proofs.ProperLines.{line_proper}
use Rattle.sig_world.proofs.replayer.Replayer.play.Goals as goal

pub play_owned-requires-clause-proper : goal.play_owned-requires-clause-proper
play_owned-requires-clause-proper c = line_proper c.args.bytes.now c.in-Ok-Some.line (sym (rw c.in-Ok-Some.field-0-is at c.in-Ok-Some.ensures))
