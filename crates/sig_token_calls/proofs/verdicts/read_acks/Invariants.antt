use Rattle.std.proofs.Common.{[], take, nat_eq}
use Rattle.indexmap.specs.IndexMap.{get}
use Rattle.sig_token_calls.specs.Verdicts.{AreRead}
use Rattle.sig_token_calls.proofs.verdicts.read_acks.Given as goal

abbrev pub invariant-loop-ack : goal.invariant-loop-ack
invariant-loop-ack l = AreRead l.prefix (take l.ack-index l.acks) [] (get nat_eq l.verdicts)
